use Rattle.std.proofs.Common.{refl}
use Rattle.rcp_model.specs.RouteServer.{slot_cost}
use Rattle.decision.proofs.tests.UnlinkedCosts.cost.Goals as goal

pub returns : goal.returns
unfolding slot_cost
returns c = refl
