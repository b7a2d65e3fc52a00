use Rattle.rcp_model.proofs.FilterLemmas.{choice_own}
use Rattle.rcp_model.proofs.laws.filters.the_own_route_goes_first.Goals as goal

pub returns : goal.returns
returns c = choice_own
