use Rattle.model_laws.proofs.EndLemmas.{told-answer}
use Rattle.model_laws.proofs.ends.an_end_closes.Goals as goal

pub returns : goal.returns
returns c roster input session open_ = (told-answer roster input session open_).ends
