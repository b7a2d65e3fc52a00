use Rattle.rcp_model.proofs.WalkLemmas.{cost_is}
use Rattle.rcp_model.proofs.laws.walks.cost_is_least.Goals as goal

pub returns : goal.returns
returns c = cost_is
