use Rattle.rcp_model.proofs.FilterLemmas.{choice_is_nearest}
use Rattle.rcp_model.proofs.laws.filters.one_route_is_nearest.Goals as goal

pub returns : goal.returns
returns c = choice_is_nearest
