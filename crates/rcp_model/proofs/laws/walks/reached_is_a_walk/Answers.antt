use Rattle.rcp_model.proofs.WalkLemmas.{reached_is_walk}
use Rattle.rcp_model.proofs.laws.walks.reached_is_a_walk.Goals as goal

pub returns : goal.returns
returns c = reached_is_walk
