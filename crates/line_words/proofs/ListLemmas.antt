-- Items and words read one after another, as a loop does.
use Rattle.std.proofs.Common.{◌≡◌, ℕ, zero, suc, ◌-◌, ◌<◌, List, [], ◌∷◌, Option, Some, None, Result, Ok, refl, sym, ap, ◌∙◌, arith}
use Rattle.std.specs.Prelude.{option_and_then}
use Rattle.line_words.specs.declared.stop.WordFault.{WordFault}
use Rattle.line_words.specs.declared.stop.Why.TheVariants as why
use Rattle.line_words.specs.Reading.{faulty}
use Rattle.line_words.specs.Lists.{items_onto, words_within}

abbrev ItemOf : Type 0
ItemOf = List ℕ → List ℕ → Option (List ℕ)

abbrev goes_on : ItemOf → List (List ℕ) → Option (List ℕ) → Option (List ℕ)
goes_on item pieces read = option_and_then (λ more. items_onto item more pieces) read

item_step : (item : ItemOf) (out piece : List ℕ) (pieces : List (List ℕ)) → items_onto item out (piece ∷ pieces) ≡ goes_on item pieces (item out piece)
unfolding items_onto
item_step item out piece pieces = refl

pub item_read : (item : ItemOf) (out more piece : List ℕ) (pieces : List (List ℕ)) → item out piece ≡ Some more → items_onto item out (piece ∷ pieces) ≡ items_onto item more pieces
item_read item out more piece pieces e = item_step item out piece pieces ∙ ap (goes_on item pieces) e

pub item_unread : (item : ItemOf) (out piece : List ℕ) (pieces : List (List ℕ)) → item out piece ≡ None → items_onto item out (piece ∷ pieces) ≡ None
item_unread item out piece pieces e = item_step item out piece pieces ∙ ap (goes_on item pieces) e

only : (item : ItemOf) (read : Option (List ℕ)) → goes_on item [] read ≡ read
unfolding items_onto
only item None = refl
only item (Some more) = refl

pub last_item : (item : ItemOf) (out piece : List ℕ) → items_onto item out (piece ∷ []) ≡ item out piece
last_item item out piece = item_step item out piece [] ∙ only item (item out piece)

-- ---- runs of words

abbrev WordOf : Type 0
WordOf = List ℕ → List ℕ → Option (Option (List ℕ))

abbrev Run : Type 0
Run = Result (List ℕ × List (List ℕ)) WordFault

abbrev after_word : WordOf → ℕ → List ℕ → List ℕ → List (List ℕ) → Option (Option (List ℕ)) → Run
after_word word most out w ws taken = elim taken [
  | None ↦ Ok (out, w ∷ ws)
  | Some read ↦ elim read [
    | None ↦ faulty (w ∷ ws) why.Value
    | Some more ↦ words_within word most more ws
  ]
]

word_step : (word : WordOf) (most : ℕ) (out w : List ℕ) (ws : List (List ℕ)) → words_within word (suc most) out (w ∷ ws) ≡ after_word word most out w ws (word out w)
unfolding words_within
word_step word most out w ws = refl

pub word_taken : (word : WordOf) (n : ℕ) (out more w : List ℕ) (ws : List (List ℕ)) (total : Run) → 0 < n → word out w ≡ Some (Some more) → words_within word n out (w ∷ ws) ≡ total → words_within word (n - 1) more ws ≡ total
word_taken word zero out more w ws total some e so_far = absurd (omega arith)
word_taken word (suc n) out more w ws total some e so_far =
    let less : suc n - 1 ≡ n = omega arith in
    ap (λ (m : ℕ). words_within word m more ws) less ∙ sym (word_step word n out w ws ∙ ap (after_word word n out w ws) e) ∙ so_far

pub word_unreadable : (word : WordOf) (n : ℕ) (out w : List ℕ) (ws : List (List ℕ)) (total : Run) → 0 < n → word out w ≡ Some None → words_within word n out (w ∷ ws) ≡ total → total ≡ faulty (w ∷ ws) why.Value
word_unreadable word zero out w ws total some e so_far = absurd (omega arith)
word_unreadable word (suc n) out w ws total some e so_far = sym so_far ∙ word_step word n out w ws ∙ ap (after_word word n out w ws) e

pub other_kind : (word : WordOf) (n : ℕ) (out w : List ℕ) (ws : List (List ℕ)) (total : Run) → 0 < n → word out w ≡ None → words_within word n out (w ∷ ws) ≡ total → total ≡ Ok (out, w ∷ ws)
other_kind word zero out w ws total some e so_far = absurd (omega arith)
other_kind word (suc n) out w ws total some e so_far = sym so_far ∙ word_step word n out w ws ∙ ap (after_word word n out w ws) e

pub no_word : (word : WordOf) (n : ℕ) (out : List ℕ) (total : Run) → 0 < n → words_within word n out [] ≡ total → total ≡ Ok (out, [])
unfolding words_within
no_word word zero out total some so_far = absurd (omega arith)
no_word word (suc n) out total some so_far = sym so_far

pub too_many : (word : WordOf) (n : ℕ) (out : List ℕ) (ws : List (List ℕ)) (total : Run) → n ≡ 0 → words_within word n out ws ≡ total → total ≡ faulty ws why.Long
unfolding words_within
too_many word zero out ws total none so_far = sym so_far
too_many word (suc n) out ws total none so_far = absurd (omega arith)
