-- Where codes rise, the row at a place is the row of its code, and a search that finds no place finds no row.
use Rattle.std.proofs.Common.{◌≡◌, ◌≢◌, ℕ, zero, suc, ◌+◌, ◌<◌, ◌≤◌, true, false, eqb, leb, List, [], ◌∷◌, length, get_or, All, Some, None, refl, subst, inl, inr, arith}
use Rattle.std.specs.Prelude.{Contains}
use Rattle.std.specs.declared.cmp.Ordering.{Ordering}
use Rattle.std.specs.declared.cmp.Ordering.TheVariants.{Less, Equal, Greater}
use Rattle.std.specs.List.Sorted.{IsNonDecreasingBy, IsPartitionPoint}
use Rattle.std.specs.Ordering.{nat_cmp, ordering_index}
use Rattle.std.proofs.lemmas.Bool.{cases_lt, and_parts, leb-true}
use Rattle.std.proofs.lemmas.Bool.Decides.{nat_tests}
use Rattle.case_table.specs.declared.Row.{Row}
use Rattle.case_table.specs.Rows.{rises_from, codes_rise, row_of}

-- after a row the codes rise from the next number
behind : (low : ℕ) (row : Row) (rows : List Row) → rises_from low (row ∷ rows) ≡ true → rises_from (row.code + 1) rows ≡ true
behind low row rows up = (and_parts (leb low row.code) (rises_from (row.code + 1) rows) up).1

-- no code is below the one that the rows rise from
not_below : (low : ℕ) (rows : List Row) → rises_from low rows ≡ true → (i : ℕ) (d : Row) → i < length rows → low ≤ (get_or rows i d).code
not_below low [] up i d lt = absurd (omega arith)
not_below low (row ∷ rows) up zero d lt = leb-true low row.code (and_parts _ _ up).0
not_below low (row ∷ rows) up (suc i) d lt =
    let first : low ≤ row.code = leb-true low row.code (and_parts _ _ up).0 in
    let inside : i < length rows = omega arith in
    let rest : row.code + 1 ≤ (get_or rows i d).code = not_below (row.code + 1) rows (behind low row rows up) i d inside in
    omega arith

-- the code at a later place is no less
rises : (low : ℕ) (rows : List Row) → rises_from low rows ≡ true → (i j : ℕ) (d : Row) → i ≤ j → j < length rows → (get_or rows i d).code ≤ (get_or rows j d).code
rises low [] up i j d le lt = absurd (omega arith)
rises low (row ∷ rows) up zero zero d le lt = omega arith
rises low (row ∷ rows) up (suc i) zero d le lt = absurd (omega arith)
rises low (row ∷ rows) up zero (suc j) d le lt =
    let inside : j < length rows = omega arith in
    let rest : row.code + 1 ≤ (get_or rows j d).code = not_below (row.code + 1) rows (behind low row rows up) j d inside in
    omega arith
rises low (row ∷ rows) up (suc i) (suc j) d le lt =
    rises (row.code + 1) rows (behind low row rows up) i j d (omega arith) (omega arith)

-- each row is the row of its code
row_of-at : (low : ℕ) (rows : List Row) → rises_from low rows ≡ true → (i : ℕ) (d : Row) → i < length rows → row_of rows (get_or rows i d).code ≡ Some (get_or rows i d)
row_of-at low [] up i d lt = absurd (omega arith)
row_of-at low (row ∷ rows) up zero d lt =
    let same : eqb row.code row.code ≡ true = grind (arith, nat_tests) in
    rw same refl
row_of-at low (row ∷ rows) up (suc i) d lt =
    let inside : i < length rows = omega arith in
    let rest : row.code + 1 ≤ (get_or rows i d).code = not_below (row.code + 1) rows (behind low row rows up) i d inside in
    let other : eqb row.code (get_or rows i d).code ≡ false = grind (arith, nat_tests) in
    rw other (row_of-at (row.code + 1) rows (behind low row rows up) i d inside)

-- no row has the code, so none is found
pub row_of-none : (rows : List Row) (code : ℕ) → All (λ row. row.code ≢ code) rows → row_of rows code ≡ None
row_of-none [] code none = refl
row_of-none (row ∷ rows) code none =
    let tail : row_of rows code ≡ None = row_of-none rows code (λ k d lt. none (suc k) d (omega arith)) in
    let differs : row.code ≢ code = none 0 row (omega arith) in
    let other : eqb row.code code ≡ false = grind (arith, nat_tests) in
    rw other tail

-- a comparison with a number is Equal only at that number, and never steps back
pub equal_is : (a x : ℕ) → nat_cmp a x ≡ Equal → a ≡ x
equal_is a x h = grind (arith, nat_tests)

cmp_rises : (a b x : ℕ) → a ≤ b → ordering_index (nat_cmp a x) ≤ ordering_index (nat_cmp b x)
cmp_rises a b x h = grind (arith, nat_tests)

less_differs : (a x : ℕ) → nat_cmp a x ≡ Less → a ≢ x
less_differs a x h e = grind (arith, nat_tests)

greater_differs : (a x : ℕ) → nat_cmp a x ≡ Greater → a ≢ x
greater_differs a x h e = grind (arith, nat_tests)

abbrev by_code : ℕ → Row → Ordering
by_code code row = nat_cmp row.code code

-- the row that a search finds is the row of the code
pub found_is : (rows : List Row) (code i : ℕ) (d : Row) → codes_rise rows ≡ true → i < length rows → by_code code (get_or rows i d) ≡ Equal → row_of rows code ≡ Some (get_or rows i d)
found_is rows code i d up lt equal =
    let same : (get_or rows i d).code ≡ code = equal_is _ _ equal in
    subst (λ (n : ℕ). row_of rows n ≡ Some (get_or rows i d)) same (row_of-at 0 rows up i d lt)

-- a search that finds none has passed every row
pub none_has : (rows : List Row) (code i : ℕ) → codes_rise rows ≡ true → (IsNonDecreasingBy (λ row. ordering_index (by_code code row)) rows → IsPartitionPoint (λ row. by_code code row ≡ Less) (λ row. by_code code row ≡ Greater) rows i) → All (λ row. row.code ≢ code) rows
none_has rows code i up parted k d lt =
    let parts = parted (λ a b e le in_rows. cmp_rises _ _ code (rises 0 rows up a b e le in_rows)) in
    elim (cases_lt k i) [
      | inl below ↦ less_differs _ _ (parts.0 k d (omega arith) below)
      | inr above ↦ greater_differs _ _ (parts.1 k d above lt)
    ]

pub row_of-contained : (rows : List Row) (row : Row) → codes_rise rows ≡ true → Contains rows row → row_of rows row.code ≡ Some row
row_of-contained rows row up found =
    subst (λ (r : Row). row_of rows r.code ≡ Some r) found.2 (row_of-at 0 rows up found.0 row found.1)
