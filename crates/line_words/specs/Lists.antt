-- Lists within a word, and runs of words, each item after the octets so far.
use Rattle.std.specs.Prelude.{◌≡◌, ℕ, zero, suc, List, [], ◌∷◌, Option, Some, None, option_and_then, Result, Ok, ◌==◌}
use Rattle.std.specs.List.{slice_split}
use Rattle.line_words.specs.declared.stop.WordFault.{WordFault}
use Rattle.line_words.specs.declared.stop.Why.TheVariants as why
use Rattle.line_words.specs.Reading.{faulty}
use Rattle.line_words.specs.declared.lists.Taken.{Taken}
use Rattle.line_words.specs.declared.lists.Taken.TheVariants as taken

-- ---- items with an octet between them

unfoldable pub items_onto : (List ℕ → List ℕ → Option (List ℕ)) → List ℕ → List (List ℕ) → Option (List ℕ)
items_onto item out [] = Some out
items_onto item out (piece ∷ pieces) = option_and_then (λ more. items_onto item more pieces) (item out piece)

abbrev pub list_onto : (List ℕ → List ℕ → Option (List ℕ)) → ℕ → List ℕ → List ℕ → Option (List ℕ)
list_onto item by out text = items_onto item out (slice_split (λ c. c == by) text)

-- ---- words, as many as are of a kind

-- what a word is: of another kind, or one whose value can't be read, or one that gives octets
abbrev pub WordOf : Type 0
WordOf = List ℕ → List ℕ → Option (Option (List ℕ))

unfoldable pub words_within : (List ℕ → List ℕ → Option (Option (List ℕ))) → ℕ → List ℕ → List (List ℕ) → Result (List ℕ × List (List ℕ)) WordFault
words_within word zero out ws = faulty ws why.Long
words_within word (suc most) out [] = Ok (out, [])
words_within word (suc most) out (w ∷ ws) = elim (word out w) [
  | None ↦ Ok (out, w ∷ ws)
  | Some read ↦ elim read [
    | None ↦ faulty (w ∷ ws) why.Value
    | Some more ↦ words_within word most more ws
  ]
]

-- what a function returned for a word, after the octets so far, and the octets that it left
abbrev pub IsTaken : Taken → List ℕ → List ℕ → Option (Option (List ℕ)) → Type 0
IsTaken taken.Other old new read = (read ≡ None) × (new ≡ old)
IsTaken taken.Unreadable old new read = read ≡ Some None
IsTaken taken.Pushed old new read = read ≡ Some (Some new)
