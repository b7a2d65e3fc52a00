use Rattle.rcpd_words.proofs.WordLemmas.{same_settings}
use Rattle.rcpd_words.proofs.settings.words_stand_for_one_list_of_settings.Goals as goal

pub returns : goal.returns
returns c = λ words one other a b. same_settings words one other a b
