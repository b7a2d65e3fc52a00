-- What a row has at a slot, where a search for the slot ends, and what an edit of the row at that place does.
use Rattle.std.proofs.Common.{◌≡◌, ◌≢◌, ℕ, zero, suc, ◌+◌, ◌-◌, ◌<◌, ◌≤◌, [], ◌∷◌, length, get_or, set, Some, None, Result, Ok, Err, IfOk, IfErr, refl, sym, ap, subst, arith}
use Rattle.std.specs.List.{insert, remove}
use Rattle.std.specs.List.Sorted.{IsSearchInRange, IsBinarySearchResult, IsNonDecreasingBy}
use Rattle.std.specs.Ordering.{nat_cmp, ordering_index}
use Rattle.std.proofs.lemmas.Bool.Decides.{nat_tests}
use Rattle.std.proofs.lemmas.Cmp.{ranked}
use Rattle.std.proofs.lemmas.Grind.{common_steps}
use Rattle.std.proofs.lemmas.List.Edits.{length-insert, get_or-insert_below, get_or-insert_at, get_or-insert_above, length-remove, get_or-remove_below, get_or-remove_above}
use Rattle.std.proofs.lemmas.List.Sorted.{IsNonDecreasingBy-from_default}
use Rattle.route_store.specs.Rows.{Row, number_in, slot_at, IsRising, IsAt, IsGapFor, PutsIn}

-- no announcement before place i is the slot's
abbrev NoneBefore : Row → ℕ → ℕ → Type 0
NoneBefore row slot i = (j : ℕ) → j < i → slot_at row j ≢ slot

before_tail : (a : ℕ × ℕ) (row : Row) (slot i : ℕ) → NoneBefore (a ∷ row) slot (suc i) → NoneBefore row slot i
before_tail a row slot i none j lt = none (suc j) (omega arith)

at_tail : (a : ℕ × ℕ) (row : Row) (slot i : ℕ) → IsAt (a ∷ row) slot (suc i) → IsAt row slot i
at_tail a row slot i is_at = record { in_range = omega (arith, is_at.in_range); has_slot = is_at.has_slot }

absent : (row : Row) (slot : ℕ) → NoneBefore row slot (length row) → number_in row slot ≡ None
absent [] slot none = refl
absent (a ∷ row) slot none = grind (arith, nat_tests, none 0 (omega arith), absent row slot (before_tail a row slot _ none))

present : (row : Row) (slot i : ℕ) → IsAt row slot i → NoneBefore row slot i → number_in row slot ≡ Some (get_or row i (0, 0)).1
present [] slot i is_at none = absurd (omega (arith, is_at.in_range))
present (a ∷ row) slot zero is_at none = grind (arith, nat_tests, is_at.has_slot)
present (a ∷ row) slot (suc i) is_at none = grind (arith, nat_tests, none 0 (omega arith), present row slot i (at_tail a row slot i is_at) (before_tail a row slot i none))

after_set : (row : Row) (slot number i : ℕ) → IsAt row slot i → NoneBefore row slot i → PutsIn row (set row i (slot, number)) slot (Some number)
after_set [] slot number i is_at none q = absurd (omega (arith, is_at.in_range))
after_set (a ∷ row) slot number zero is_at none q = grind (arith, nat_tests, is_at.has_slot)
after_set (a ∷ row) slot number (suc i) is_at none q = grind (arith, nat_tests, none 0 (omega arith), after_set row slot number i (at_tail a row slot i is_at) (before_tail a row slot i none) q)

after_insert : (row : Row) (slot number i : ℕ) → NoneBefore row slot i → PutsIn row (insert row i (slot, number)) slot (Some number)
after_insert row slot number zero none q = refl
after_insert [] slot number (suc i) none q = refl
after_insert (a ∷ row) slot number (suc i) none q = grind (arith, nat_tests, none 0 (omega arith), after_insert row slot number i (before_tail a row slot i none) q)

-- no other announcement is the slot's
abbrev NoneBut : Row → ℕ → ℕ → Type 0
NoneBut row slot i = (j : ℕ) → j < length row → j ≢ i → slot_at row j ≢ slot

but_tail : (a : ℕ × ℕ) (row : Row) (slot i : ℕ) → NoneBut (a ∷ row) slot (suc i) → NoneBut row slot i
but_tail a row slot i none j lt other = none (suc j) (omega arith) (λ e. other (omega arith))

after_remove : (row : Row) (slot i : ℕ) → IsAt row slot i → NoneBut row slot i → PutsIn row (remove row i) slot None
after_remove [] slot i is_at none q = absurd (omega (arith, is_at.in_range))
after_remove (a ∷ row) slot zero is_at none q =
    let gone : number_in row slot ≡ None = absent row slot (λ j lt. none (suc j) (omega arith) (λ e. omega arith)) in
    grind (arith, nat_tests, is_at.has_slot, gone, λ (e : slot ≡ q). ap (number_in row) e)
after_remove (a ∷ row) slot (suc i) is_at none q =
    grind (arith, nat_tests, none 0 (omega arith) (λ e. omega arith), after_remove row slot i (at_tail a row slot i is_at) (but_tail a row slot i none) q)

module _ (row : Row) (rising : IsRising row) (slot : ℕ) where
  comparisons_rise : IsNonDecreasingBy (λ a. ordering_index (nat_cmp a.0 slot)) row
  comparisons_rise = IsNonDecreasingBy-from_default (λ a. ordering_index (nat_cmp a.0 slot)) row (0, 0) (λ i j le in_range.
      let slots_rise : slot_at row i ≤ slot_at row j = grind (arith, rising i j, λ (same : i ≡ j). ap (slot_at row) same) in
      grind (arith, nat_tests))

  -- a search ends at the slot's announcement, or at the gap for it
  pub searched : (r : Result ℕ ℕ) → IsSearchInRange r (length row) → IsBinarySearchResult (λ a. nat_cmp a.0 slot) row r → record { found : IfOk r (IsAt row slot); absent : IfErr r (IsGapFor row slot) }
  searched (Ok at) in_range equal = record { found = record { in_range = in_range; has_slot = ranked _ slot _ (sym (equal (0, 0))) }; absent = tt }
  searched (Err at) in_range parted = record {
    found = tt;
    absent = record {
      in_range = in_range;
      smaller_before = λ j lt. ranked _ slot _ (sym ((parted comparisons_rise).0 j (0, 0) (omega arith) lt));
      greater_after = λ j le lt. ranked _ slot _ (sym ((parted comparisons_rise).1 j (0, 0) le lt));
    };
  }

module _ (row : Row) (rising : IsRising row) (slot at : ℕ) (is_at : IsAt row slot at) where
  none_before : NoneBefore row slot at
  none_before j lt same = omega (arith, rising j at lt is_at.in_range, is_at.has_slot)

  none_but : NoneBut row slot at
  none_but j lt other same = grind (arith, rising j at, rising at j, is_at.in_range, is_at.has_slot)

  pub number_at_place : number_in row slot ≡ Some (get_or row at (0, 0)).1
  number_at_place = present row slot at is_at none_before

  pub puts_set : (number : ℕ) → PutsIn row (set row at (slot, number)) slot (Some number)
  puts_set number = after_set row slot number at is_at none_before

  pub rising_set : (number : ℕ) → IsRising (set row at (slot, number))
  rising_set number i j lt in_range = grind (arith, common_steps, rising i j, rising i at, rising at j, is_at.in_range, is_at.has_slot)

  pub puts_remove : PutsIn row (remove row at) slot None
  puts_remove = after_remove row slot at is_at none_but

  pub rising_remove : IsRising (remove row at)
  rising_remove i j lt in_range =
      let new = remove row at in
      let length_new = length-remove row at is_at.in_range in
      let slot_of = λ (a : ℕ × ℕ). a.0 in
      let below : (k : ℕ) → k < at → slot_at new k ≡ slot_at row k = λ k less. ap slot_of (get_or-remove_below row at (0, 0) k less is_at.in_range) in
      let above : (k : ℕ) → at ≤ k → slot_at new k ≡ slot_at row (k + 1) = λ k more. ap slot_of (get_or-remove_above row at (0, 0) k more is_at.in_range) in
      grind (arith, below i, below j, above i, above j, rising i j, rising i (j + 1), rising (i + 1) (j + 1))

module _ (row : Row) (slot at : ℕ) (gap : IsGapFor row slot at) where
  pub none_in_gap : number_in row slot ≡ None
  none_in_gap = absent row slot (λ j lt same. grind (arith, gap.smaller_before j, gap.greater_after j))

  pub puts_insert : (number : ℕ) → PutsIn row (insert row at (slot, number)) slot (Some number)
  puts_insert number = after_insert row slot number at (λ j lt same. omega (arith, gap.smaller_before j lt))

  pub rising_insert : (number : ℕ) → IsRising row → IsRising (insert row at (slot, number))
  rising_insert number rising i j lt in_range =
      let new = insert row at (slot, number) in
      let slot_of = λ (a : ℕ × ℕ). a.0 in
      let length_new = length-insert row at (slot, number) gap.in_range in
      let below : (k : ℕ) → k < at → slot_at new k ≡ slot_at row k = λ k less. ap slot_of (get_or-insert_below row at (slot, number) (0, 0) k less gap.in_range) in
      let here : (k : ℕ) → k ≡ at → slot_at new k ≡ slot = λ k e. rw e (ap slot_of (get_or-insert_at row at (slot, number) (0, 0) gap.in_range)) in
      let above : (k : ℕ) → at < k → slot_at new k ≡ slot_at row (k - 1) = λ k more. subst (λ q. slot_at new q ≡ slot_at row (k - 1)) {x = k - 1 + 1} (omega arith) (ap slot_of (get_or-insert_above row at (slot, number) (0, 0) (k - 1) (omega arith) gap.in_range)) in
      grind (arith, below i, here i, above i, below j, here j, above j, rising i j, rising i (j - 1), rising (i - 1) (j - 1), gap.smaller_before i, gap.greater_after (j - 1))

-- a slot without a number changes nothing
pub puts_none : (row : Row) (slot : ℕ) → number_in row slot ≡ None → PutsIn row row slot None
puts_none row slot none q = grind (arith, nat_tests, none, λ (e : slot ≡ q). ap (number_in row) e)
