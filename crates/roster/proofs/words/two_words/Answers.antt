use Rattle.std.proofs.Common.{ℕ, ◌∷◌, List, ap, ◌∙◌, arith}
use Rattle.roster.proofs.WordLemmas.{one_word, third_word}
use Rattle.roster.proofs.words.two_words.Goals as goal

pub returns-in_err-word : goal.returns-in_err-word
returns-in_err-word c = rw c.from_residual.ensures (one_word _ _ 2 c.in_err-word.ensures.parts (λ e. omega arith))

pub returns-in-None : goal.returns-in-None
returns-in-None c = c.in_ok-word.ensures.parts ∙ ap (λ (words : List (List ℕ)). c.in_ok-word.word.now ∷ words) c.in-None.ensures.parts

pub returns-in-Some : goal.returns-in-Some
returns-in-Some c = third_word _ _ _ c.in-Some.field-0.0.now c.in-Some.field-0.1.now c.in_ok-word.ensures.parts c.in-Some.ensures.parts
