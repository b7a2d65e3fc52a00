use Rattle.rcp_words.proofs.WordLemmas.{same_command}
use Rattle.rcp_words.proofs.command.words_stand_for_one_command.Goals as goal

pub returns : goal.returns
returns c = λ words one other a b. same_command words one other a b
