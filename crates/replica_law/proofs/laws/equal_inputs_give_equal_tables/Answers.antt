use Rattle.replica_law.proofs.LawLemmas.{replica_law}
use Rattle.replica_law.proofs.laws.equal_inputs_give_equal_tables.Goals as goal

pub returns : goal.returns
returns c = replica_law
