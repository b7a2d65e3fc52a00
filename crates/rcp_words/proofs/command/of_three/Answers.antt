use Rattle.std.proofs.Common.{ℕ, List, ◌≡◌, [], ◌∷◌, codes, sym, subst, rules}
use Rattle.rcp_words.specs.Words.{IsBesideThreads, StandForNone}
use Rattle.rcp_words.proofs.WordLemmas.{no_trial}
use Rattle.rcp_words.proofs.command.of_three.Goals as goal

pub returns-in_err-number : goal.returns-in_err-number
returns-in_err-number c =
    let second = c.args.second.now in
    let third = c.args.third.now in
    let none : (n : ℕ) → IsBesideThreads second third n → ⊥ = search rules in
    let word : c.args.word.now ≡ codes "trial" = search rules in
    let stands : StandForNone (c.args.word.now ∷ second ∷ third ∷ []) = subst (λ (w : List ℕ). StandForNone (w ∷ second ∷ third ∷ [])) (sym word) (no_trial second third none) in
    search rules
