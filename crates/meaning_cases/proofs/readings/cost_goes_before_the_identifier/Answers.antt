use Rattle.std.proofs.Common.{refl}
use Rattle.rcp_model.specs.Costs.{cost_through}
use Rattle.rcp_model.specs.Decision.{tied, choice}
use Rattle.rcp_model.specs.RouteServer.{slot_cost}
use Rattle.meaning_cases.proofs.readings.cost_goes_before_the_identifier.Goals as goal

pub returns : goal.returns
unfolding cost_through tied choice slot_cost
returns c = refl
