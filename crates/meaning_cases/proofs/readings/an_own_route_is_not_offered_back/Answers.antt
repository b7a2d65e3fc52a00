use Rattle.std.proofs.Common.{refl}
use Rattle.rcp_model.specs.Attributes.{attribute_size, segment_size, number_size, canonical, attribute_octets}
use Rattle.rcp_model.specs.Routes.{route_of}
use Rattle.rcp_model.specs.Costs.{cost_through}
use Rattle.rcp_model.specs.Decision.{tied, choice}
use Rattle.rcp_model.specs.RouteServer.{slot_cost, candidates, choice_of, offer}
use Rattle.meaning_cases.proofs.readings.an_own_route_is_not_offered_back.Goals as goal

pub returns : goal.returns
unfolding cost_through tied choice slot_cost attribute_size segment_size number_size canonical attribute_octets route_of candidates choice_of offer
returns c = record { first = refl; last = refl; between = refl }
