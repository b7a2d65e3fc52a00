use Rattle.lsa_reader.proofs.ReadAgain.{lsa_at-spelled}
use Rattle.lsa_reader.proofs.laws.written_is_read.Goals as goal

pub returns : goal.returns
returns c = lsa_at-spelled
