use Rattle.rcp_model.proofs.FilterLemmas.{choice_other}
use Rattle.rcp_model.proofs.laws.filters.the_nearest_is_chosen.Goals as goal

pub returns : goal.returns
returns c = choice_other
