use Rattle.rcp_model.proofs.WalkLemmas.{IsCost-from_settled}
use Rattle.rcp_model.proofs.laws.walks.settled_costs_are_least.Goals as goal

pub returns : goal.returns
returns c = IsCost-from_settled
