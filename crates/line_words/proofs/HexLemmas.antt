-- Pairs of digits, taken from the front.
use Rattle.std.proofs.Common.{◌≡◌, ℕ, ◌-◌, ◌≤◌, List, [], ◌∷◌, ◌++◌, length, take, drop, get_or, Option, Some, sym, ap, ◌∙◌, arith}
use Rattle.std.specs.Prelude.{option_and_then}
use Rattle.std.proofs.lemmas.List.{take_rest}
use Rattle.line_words.specs.Words.{hex_digit, of_two_digits, hex_pairs_onto}

pub two_off : (xs out : List ℕ) (o : ℕ) → 2 ≤ length xs → of_two_digits (hex_digit (get_or xs 0 0)) (hex_digit (get_or xs 1 0)) ≡ Some o
    → hex_pairs_onto out xs ≡ hex_pairs_onto (out ++ o ∷ []) (take (length xs - 2) (drop 2 xs))
unfolding hex_pairs_onto
two_off [] out o le e = absurd (omega arith)
two_off (c ∷ []) out o le e = absurd (omega arith)
two_off (c ∷ d ∷ cs) out o le e =
    ap (λ (r : Option ℕ). option_and_then (λ o. hex_pairs_onto (out ++ o ∷ []) cs) r) e
    ∙ ap (hex_pairs_onto (out ++ o ∷ [])) (sym (take_rest (c ∷ d ∷ cs) 2))
