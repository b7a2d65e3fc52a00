-- The cut of octets into pieces that say their own lengths: its first piece, and its end.
use Rattle.std.proofs.Common.{◌≡◌, ℕ, zero, suc, ◌+◌, ◌-◌, ◌<◌, ◌≤◌, List, [], ◌∷◌, ◌++◌, length, get_or, take, drop, Option, Some, None, inl, inr, refl, ap, ◌∙◌, arith, append_assoc, sub-one, length-append}
use Rattle.std.specs.List.{AllByRecursion, concat}
use Rattle.std.proofs.lemmas.List.{take_at, drop_at, get_or-take, get_or-drop, get_or_past, length-take}
use Rattle.std.proofs.lemmas.Bool.{cases_lt}
use Rattle.rcp_base.specs.Cut.{cut, cut_after}

-- octets of the last piece that are still to come are skipped
cut_after-skips : (size : List ℕ → Option ℕ) (left : ℕ) (xs : List ℕ) → cut_after size left xs ≡ cut size (drop left xs)
cut_after-skips size zero [] = refl
cut_after-skips size (suc left) [] = refl
cut_after-skips size zero (x ∷ xs) = refl
cut_after-skips size (suc left) (x ∷ xs) = cut_after-skips size left xs

-- a whole piece in front, and then the cut of what follows it
pub cut-more : (size : List ℕ → Option ℕ) (xs : List ℕ) (n : ℕ) → size xs ≡ Some n → 0 < n → 0 < length xs → cut size xs ≡ (take n xs ∷ (cut size (drop n xs)).0, (cut size (drop n xs)).1)
cut-more size [] n is some long = absurd (omega arith)
cut-more size (x ∷ xs) zero is some long = absurd (omega arith)
cut-more size (x ∷ xs) (suc n) is some long =
    let skips : cut_after size (suc n - 1) xs ≡ cut size (drop n xs) = rw sub-one (cut_after-skips size n xs) in
    rw (is, cut_after, skips) refl

-- no whole piece in front
pub cut-none : (size : List ℕ → Option ℕ) (xs : List ℕ) → size xs ≡ None → cut size xs ≡ ([], xs)
cut-none size [] is = refl
cut-none size (x ∷ xs) is = rw (is, cut_after) refl

-- a piece that is known, and what follows it
pub cut-piece : (size : List ℕ → Option ℕ) (piece rest : List ℕ) → size (piece ++ rest) ≡ Some (length piece) → 0 < length piece → cut size (piece ++ rest) ≡ (piece ∷ (cut size rest).0, (cut size rest).1)
cut-piece size piece rest is some =
    let long : 0 < length (piece ++ rest) = omega (arith, length-append piece rest) in
    rw (cut-more size (piece ++ rest) (length piece) is some long, take_at piece rest (length piece) refl, drop_at piece rest (length piece) refl) refl

-- ---- all pieces

abbrev pub IsBytes : List ℕ → Type 0
IsBytes octets = (i : ℕ) → get_or octets i 0 < 256

pub IsBytes-take : (n : ℕ) (xs : List ℕ) → IsBytes xs → IsBytes (take n xs)
IsBytes-take n xs bytes i = elim (cases_lt i n) [
  | inl lt ↦ rw (get_or-take n xs i 0 lt) (bytes i)
  | inr le ↦ rw (get_or_past (take n xs) i 0 (omega (arith, length-take n xs))) (omega arith)
]

pub IsBytes-drop : (n : ℕ) (xs : List ℕ) → IsBytes xs → IsBytes (drop n xs)
IsBytes-drop n xs bytes i = rw (get_or-drop n xs i 0) (bytes (n + i))

-- what holds of each piece of a given size holds of all pieces
module _ (size : List ℕ → Option ℕ) (P : List ℕ → Type 0) (good : (xs : List ℕ) (n : ℕ) → IsBytes xs → size xs ≡ Some n → P (take n xs)) where
  each_after : (left : ℕ) (xs : List ℕ) → IsBytes xs → AllByRecursion P (cut_after size left xs).0
  each_after zero [] octets = tt
  each_after (suc left) [] octets = tt
  each_after (suc left) (x ∷ xs) octets = each_after left xs (λ i. octets (suc i))
  each_after zero (x ∷ xs) octets = front (λ left. each_after left xs (λ i. octets (suc i))) (size (x ∷ xs)) refl
    where
      front : ((left : ℕ) → AllByRecursion P (cut_after size left xs).0) → (o : Option ℕ) → size (x ∷ xs) ≡ o → AllByRecursion P (cut_after size 0 (x ∷ xs)).0
      front others None is = rw (is, cut_after) tt
      front others (Some n) is = rw (is, cut_after) (good (x ∷ xs) n octets is, others (n - 1))

  pub each_piece : (xs : List ℕ) → IsBytes xs → AllByRecursion P (cut size xs).0
  each_piece xs octets = each_after 0 xs octets

-- the pieces and the rest are the octets
module _ (size : List ℕ → Option ℕ) (fits : (xs : List ℕ) (n : ℕ) → size xs ≡ Some n → (0 < n) × (n ≤ length xs)) where
  whole_after : (left : ℕ) (xs : List ℕ) → left ≤ length xs → take left xs ++ (concat (cut_after size left xs).0 ++ (cut_after size left xs).1) ≡ xs
  whole_after zero [] le = refl
  whole_after (suc left) [] le = absurd (omega arith)
  whole_after (suc left) (x ∷ xs) le = ap (λ (ys : List ℕ). x ∷ ys) (whole_after left xs (omega arith))
  whole_after zero (x ∷ xs) le = front (λ left. whole_after left xs) (size (x ∷ xs)) refl
    where
      front : ((left : ℕ) → left ≤ length xs → take left xs ++ (concat (cut_after size left xs).0 ++ (cut_after size left xs).1) ≡ xs)
          → (o : Option ℕ) → size (x ∷ xs) ≡ o → concat (cut_after size 0 (x ∷ xs)).0 ++ (cut_after size 0 (x ∷ xs)).1 ≡ x ∷ xs
      front others None is = rw (is, cut_after) refl
      front others (Some zero) is = absurd (omega (arith, (fits (x ∷ xs) 0 is).0))
      front others (Some (suc n)) is =
          let inside : n ≤ length xs = omega (arith, (fits (x ∷ xs) (suc n) is).1) in
          let less : suc n - 1 ≡ n = omega arith in
          rw (is, cut_after, less) (ap (λ (ys : List ℕ). x ∷ ys) (append_assoc (take n xs) _ _ ∙ others n inside))

  pub whole_cut : (xs : List ℕ) → concat (cut size xs).0 ++ (cut size xs).1 ≡ xs
  whole_cut xs = whole_after 0 xs (omega arith)
