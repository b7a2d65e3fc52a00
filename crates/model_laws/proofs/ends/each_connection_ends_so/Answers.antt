use Rattle.model_laws.proofs.EndLemmas.{opened_told, established_told}
use Rattle.model_laws.proofs.ends.each_connection_ends_so.Goals as goal

pub returns : goal.returns
returns c = record { opened = opened_told; established = established_told }
