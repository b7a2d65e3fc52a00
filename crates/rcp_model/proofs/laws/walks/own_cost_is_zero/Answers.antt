use Rattle.rcp_model.proofs.WalkLemmas.{cost-itself}
use Rattle.rcp_model.proofs.laws.walks.own_cost_is_zero.Goals as goal

pub returns : goal.returns
returns c = cost-itself
