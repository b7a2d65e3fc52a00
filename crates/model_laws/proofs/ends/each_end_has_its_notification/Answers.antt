use Rattle.model_laws.proofs.EndLemmas.{end_told, run_told}
use Rattle.model_laws.proofs.ends.each_end_has_its_notification.Goals as goal

pub returns : goal.returns
returns c = record { one = end_told; run = run_told }
