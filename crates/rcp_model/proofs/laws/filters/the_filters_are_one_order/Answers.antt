use Rattle.rcp_model.proofs.FilterLemmas.{tied_is}
use Rattle.rcp_model.proofs.laws.filters.the_filters_are_one_order.Goals as goal

pub returns : goal.returns
returns c = tied_is
