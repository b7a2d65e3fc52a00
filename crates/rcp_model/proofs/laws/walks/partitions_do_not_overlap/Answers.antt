use Rattle.rcp_model.proofs.WalkLemmas.{reached_equivalence}
use Rattle.rcp_model.proofs.laws.walks.partitions_do_not_overlap.Goals as goal

pub returns : goal.returns
returns c = reached_equivalence
