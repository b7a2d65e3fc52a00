use Rattle.std.proofs.Common.{ℕ, ◌∷◌, List, ap, ◌∙◌, arith}
use Rattle.roster.proofs.WordLemmas.{one_word, one_more}
use Rattle.roster.proofs.words.four_words.Goals as goal

pub returns-in_err-word : goal.returns-in_err-word
returns-in_err-word c = rw c.from_residual.ensures (one_word _ _ 4 c.in_err-word.ensures.parts (λ e. omega arith))

pub returns-in_err-a : goal.returns-in_err-a
returns-in_err-a c = rw c.from_residual-in_err-a.ensures (one_more _ _ _ 3 c.in_ok-word.ensures.parts c.in_err-a.ensures)

pub returns : goal.returns
returns c = c.in_ok-word.ensures.parts ∙ ap (λ (words : List (List ℕ)). c.in_ok-word.word.now ∷ words) c.in_ok-a.ensures
