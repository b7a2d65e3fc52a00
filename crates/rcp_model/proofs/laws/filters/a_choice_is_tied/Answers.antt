use Rattle.rcp_model.proofs.FilterLemmas.{choice_none, choice_is_tied}
use Rattle.rcp_model.proofs.laws.filters.a_choice_is_tied.Goals as goal

pub returns : goal.returns
returns c = record { none = choice_none; some = choice_is_tied }
