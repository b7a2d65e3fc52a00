-- What each change of the columns means for the table.
use Rattle.std.proofs.Common.{◌≡◌, ◌≢◌, ℕ, ◌-◌, ◌^◌, ◌<◌, ◌≤◌, Bool, true, false, cond, not, ◌&&◌, ◌||◌, eqb, ltb, List, [], ◌∷◌, length, get_or, drop, replicate, Option, Some, None, IfSome, refl, sym, ap, subst, ◌∙◌, arith, ◌⊎◌, inl, inr}
use Rattle.std.proofs.Math.ListN.{set}
use Rattle.std.specs.List.{AllByRecursion}
use Rattle.std.specs.Map.{keys_of}
use Rattle.std.specs.List.Sorted.{IsStrictlySortedBy}
use Rattle.std.specs.FinMap as map_of
use Rattle.std.specs.FinSet as set_of
use Rattle.std.specs.Option.{option_and_then}
use Rattle.std.specs.Ordering.{is_eq, is_le, eq_by_cmp}
use Rattle.std.specs.declared.cmp.Ordering.TheVariants.{Less, Equal}
use Rattle.std.proofs.lemmas.Bool.{cases_eq, cases_lt, false≢true, lt-ltb, eq-eqb, ne_eqb, or_cases, or_left, and_right, false_from_ne_true, cond-true, cond-false}
use Rattle.std.proofs.lemmas.Option.{same_Some, none-some}
use Rattle.std.proofs.lemmas.Cmp.{tied_itself, tied_back}
use Rattle.std.proofs.lemmas.List.{get_or-set_same, get_or-set_other, length-set, get_or_past, get_or-replicate, length-replicate}
use Rattle.rcp_base.specs.IpPrefix.{IpPrefix, prefix_cmp}
use Rattle.rcp_model.specs.Ribs.{RibKey, rib_cmp, RouteNumbers, route_no_of}
use Rattle.rcp_model.proofs.RibLemmas.{prefix_total, prefix_exact, rib_total, rib_exact, rib_tied}
use Rattle.out_table.specs.Cells.{Cells, no_number, no_cells, number_at, held_for, is_same, first_of}
use Rattle.out_table.specs.Tables.{Table, cell, is_opened, is_dirty, with_number, after_set, cleaned, unmarked, cleared, IsLeast}
use Rattle.out_table.specs.Places.{Place, place_of, prefix_in, AreInverse, cells_at, number_of, is_listed, IsRising, AreKept, IsKept, Sets, table_of}
use Rattle.out_table.proofs.RisingLemmas.{is_equal, less_not_equal}
use Rattle.out_table.proofs.EntryLemmas.{cell_is, dirty_is, opened_is, same_table}

-- ---- prefixes and places

pub placed_at : (p : IpPrefix) (place : ℕ) (places : List Place) (prefixes : List IpPrefix) → AreInverse places prefixes → place_of p places ≡ Some place → prefix_in prefixes place ≡ p
placed_at p place places prefixes inverse found = (inverse.placed p place found).1

pub itself : (p : IpPrefix) → eq_by_cmp prefix_cmp p p ≡ true
itself p = ap is_eq (tied_itself prefix_total p)

pub apart_of : (p q : IpPrefix) → (eq_by_cmp prefix_cmp q p ≡ false) → q ≢ p
apart_of p q is same = false≢true (sym is ∙ subst (λ (r : IpPrefix). eq_by_cmp prefix_cmp r p ≡ true) (sym same) (itself p))

pub tied_same : (p q : IpPrefix) → eq_by_cmp prefix_cmp q p ≡ true → q ≡ p
tied_same p q is = prefix_exact q p (is_equal (prefix_cmp q p) is)

-- ---- one cell is written

number_by : Option ℕ → List ℕ → Option ℕ
number_by place numbers = option_and_then (λ place. number_at place numbers) place

-- the number at each prefix after that of one is written
pub number-set : (p q : IpPrefix) (place number : ℕ) (places : List Place) (prefixes : List IpPrefix) (numbers : List ℕ) (value : Option ℕ)
    → AreInverse places prefixes → place_of p places ≡ Some place → place < length numbers → route_no_of number ≡ value
    → number_of q places (set numbers place number) ≡ cond (eq_by_cmp prefix_cmp q p) value (number_of q places numbers)
number-set p q place number places prefixes numbers value inverse found within is = by_test (eq_by_cmp prefix_cmp q p) refl where
  here : number_of p places (set numbers place number) ≡ value
  here = ap (λ (o : Option ℕ). option_and_then (λ k. number_at k (set numbers place number)) o) found ∙ ap route_no_of (get_or-set_same numbers place number no_number within) ∙ is

  elsewhere : q ≢ p → (o : Option ℕ) → place_of q places ≡ o
      → option_and_then (λ k. number_at k (set numbers place number)) o ≡ option_and_then (λ place. number_at place numbers) o
  elsewhere other None at = refl
  elsewhere other (Some k) at =
      let differs : k ≢ place = λ same. other (sym (placed_at q k places prefixes inverse at) ∙ ap (prefix_in prefixes) same ∙ placed_at p place places prefixes inverse found) in
      ap route_no_of (get_or-set_other numbers place k number no_number differs)

  by_test : (t : Bool) → eq_by_cmp prefix_cmp q p ≡ t → number_of q places (set numbers place number) ≡ cond (eq_by_cmp prefix_cmp q p) value (number_of q places numbers)
  by_test true tied =
      subst (λ (r : IpPrefix). number_of r places (set numbers place number) ≡ value) (sym (tied_same p q tied)) here
      ∙ sym (cond-true (eq_by_cmp prefix_cmp q p) value (number_of q places numbers) tied)
  by_test false apart =
      elsewhere (apart_of p q apart) (place_of q places) refl
      ∙ sym (cond-false (eq_by_cmp prefix_cmp q p) value (number_of q places numbers) apart)

pub get-with_number : (key k : RibKey) (value : Option ℕ) (cells : RouteNumbers) → map_of.get (with_number key value cells) k ≡ cond (eq_by_cmp rib_cmp k key) value (map_of.get cells k)
get-with_number key k None cells = map_of.get-remove rib_total cells key k
get-with_number key k (Some n) cells = map_of.get-insert rib_total cells key n k

pub contains-marked : (t : Bool) (key k : RibKey) (dirty : set_of.FinSet rib_cmp)
    → set_of.contains (cond t dirty (set_of.insert dirty key)) k ≡ ((not t && eq_by_cmp rib_cmp k key) || set_of.contains dirty k)
contains-marked true key k dirty = refl
contains-marked false key k dirty = set_of.contains-insert rib_total dirty key k

pub held_number : (value : Option ℕ) → IfSome value (λ n. n < 2 ^ 32 - 1) → route_no_of (held_for value) ≡ value
held_number None small = refl
held_number (Some n) small = cond-true (ltb n (2 ^ 32 - 1)) (Some n) None (lt-ltb n (2 ^ 32 - 1) small)

and_true : (t : Bool) → (t && true) ≡ t
and_true true = refl
and_true false = refl

pub number_found : (p : IpPrefix) (place : ℕ) (places : List Place) (numbers : List ℕ) → place_of p places ≡ Some place → number_of p places numbers ≡ number_at place numbers
number_found p place places numbers found = ap (λ (o : Option ℕ). option_and_then (λ place. number_at place numbers) o) found

pub members_are : (members : ℕ) (places : List Place) (prefixes : List IpPrefix) (columns : List Cells) → (table_of members places prefixes columns).members ≡ members
unfolding table_of
members_are members places prefixes columns = refl

pub members_same : (members : ℕ) (places : List Place) (prefixes : List IpPrefix) (columns others : List Cells) → (table_of members places prefixes columns).members ≡ (table_of members places prefixes others).members
unfolding table_of
members_same members places prefixes columns others = refl

-- the table after one cell is written, and marked where it changes
pub table-set : (members slot place : ℕ) (p : IpPrefix) (value : Option ℕ) (places : List Place) (prefixes : List IpPrefix) (columns : List Cells) (changes : Bool) (new : Cells)
    → AreInverse places prefixes → slot < length columns → place_of p places ≡ Some place → place < length (cells_at slot columns).numbers → IfSome value (λ n. n < 2 ^ 32 - 1)
    → changes ≡ not (is_same (number_at place (cells_at slot columns).numbers) value) → Sets place (held_for value) prefixes changes (cells_at slot columns) new
    → table_of members places prefixes (set columns slot new) ≡ after_set slot p value (table_of members places prefixes columns)
table-set members slot place p value places prefixes columns changes new inverse within found long small is sets =
    same_table after (after_set slot p value before) (members_same members places prefixes (set columns slot new) columns)
    (λ q. opened_is members places prefixes (set columns slot new) q ∙ sym (opened_is members places prefixes columns q))
    (λ s q.
    cell_is members places prefixes (set columns slot new) inverse.sorted s q ∙ cells_same s q (cases_eq s slot)
    ∙ sym (get-with_number (p, slot) (q, s) value before.cells
    ∙ ap (λ (t : Bool). cond t value (cell before s q)) (rib_tied (q, s) (p, slot))
    ∙ ap (cond (eq_by_cmp prefix_cmp q p && eqb s slot) value) (cell_is members places prefixes columns inverse.sorted s q)))
    (λ s q.
    dirty_is members places prefixes (set columns slot new) s q ∙ dirty_same s q (cases_eq s slot)
    ∙ sym (contains-marked (is_same (cell before slot p) value) (p, slot) (q, s) before.dirty
    ∙ ap (λ (t : Bool). (t && eq_by_cmp rib_cmp (q, s) (p, slot)) || is_dirty before s q) (sym (is ∙ ap (λ (o : Option ℕ). not (is_same o value)) (sym (cell_is members places prefixes columns inverse.sorted slot p ∙ number_found p place places (cells_at slot columns).numbers found))))
    ∙ ap (λ (t : Bool). (changes && t) || is_dirty before s q) (rib_tied (q, s) (p, slot))
    ∙ ap (λ (t : Bool). (changes && (eq_by_cmp prefix_cmp q p && eqb s slot)) || t) (dirty_is members places prefixes columns s q))) where
      before : Table
      before = table_of members places prefixes columns

      after : Table
      after = table_of members places prefixes (set columns slot new)

      cells_same : (s : ℕ) (q : IpPrefix) → (s ≡ slot) ⊎ (s ≢ slot)
          → number_of q places (cells_at s (set columns slot new)).numbers ≡ cond (eq_by_cmp prefix_cmp q p && eqb s slot) value (number_of q places (cells_at s columns).numbers)
      cells_same s q (inl same) =
          subst (λ (n : ℕ). number_of q places (cells_at n (set columns slot new)).numbers ≡ cond (eq_by_cmp prefix_cmp q p && eqb s slot) value (number_of q places (cells_at n columns).numbers)) (sym same)
          (ap (λ (v : Cells). number_of q places v.numbers) (get_or-set_same columns slot new no_cells within)
          ∙ ap (number_of q places) sets.numbers
          ∙ number-set p q place (held_for value) places prefixes (cells_at slot columns).numbers value inverse found long (held_number value small)
          ∙ ap (λ (t : Bool). cond t value (number_of q places (cells_at slot columns).numbers)) (sym (ap (λ (t : Bool). eq_by_cmp prefix_cmp q p && t) (eq-eqb s slot same) ∙ and_true (eq_by_cmp prefix_cmp q p))))
      cells_same s q (inr other) =
          ap (λ (v : Cells). number_of q places v.numbers) (get_or-set_other columns slot s new no_cells other)
          ∙ sym (cond-false (eq_by_cmp prefix_cmp q p && eqb s slot) value (number_of q places (cells_at s columns).numbers) (and_right (eq_by_cmp prefix_cmp q p) (eqb s slot) (ne_eqb s slot other)))

      dirty_same : (s : ℕ) (q : IpPrefix) → (s ≡ slot) ⊎ (s ≢ slot)
          → is_listed q prefixes (cells_at s (set columns slot new)).dirty ≡ ((changes && (eq_by_cmp prefix_cmp q p && eqb s slot)) || is_listed q prefixes (cells_at s columns).dirty)
      dirty_same s q (inl same) =
          subst (λ (n : ℕ). is_listed q prefixes (cells_at n (set columns slot new)).dirty ≡ ((changes && (eq_by_cmp prefix_cmp q p && eqb s slot)) || is_listed q prefixes (cells_at n columns).dirty)) (sym same)
          (ap (λ (v : Cells). is_listed q prefixes v.dirty) (get_or-set_same columns slot new no_cells within)
          ∙ sets.listed q
          ∙ ap (λ (r : IpPrefix). (changes && eq_by_cmp prefix_cmp q r) || is_listed q prefixes (cells_at slot columns).dirty) (placed_at p place places prefixes inverse found)
          ∙ ap (λ (t : Bool). (changes && t) || is_listed q prefixes (cells_at slot columns).dirty) (sym (ap (λ (t : Bool). eq_by_cmp prefix_cmp q p && t) (eq-eqb s slot same) ∙ and_true (eq_by_cmp prefix_cmp q p))))
      dirty_same s q (inr other) =
          ap (λ (v : Cells). is_listed q prefixes v.dirty) (get_or-set_other columns slot s new no_cells other)
          ∙ ap (λ (t : Bool). t || is_listed q prefixes (cells_at s columns).dirty) (sym (and_right changes (eq_by_cmp prefix_cmp q p && eqb s slot) (and_right (eq_by_cmp prefix_cmp q p) (eqb s slot) (ne_eqb s slot other))))

-- what the cells of a slot keep after one is written
pub kept-set : (room place number : ℕ) (prefixes : List IpPrefix) (changes : Bool) (old new : Cells) → AreKept room prefixes old → place < length prefixes → Sets place number prefixes changes old new → AreKept room prefixes new
kept-set room place number prefixes changes old new kept within sets = let long = kept.long in record {
  long = subst (λ (ns : List ℕ). room ≤ length ns) (sym sets.numbers) (omega (arith, length-set old.numbers place number));
  unused = λ k past. ap (λ (ns : List ℕ). get_or ns k no_number) sets.numbers ∙ get_or-set_other old.numbers place k number no_number (λ same. absurd (omega arith)) ∙ kept.unused k past;
  below = sets.below;
  rising = sets.rising;
}

-- what a table keeps after the cells of one slot change
pub table_kept : (members room : ℕ) (places : List Place) (prefixes : List IpPrefix) (columns : List Cells) (slot : ℕ) (new : Cells)
    → IsKept members room places prefixes columns → slot < length columns → AreKept room prefixes new → IsKept members room places prefixes (set columns slot new)
table_kept members room places prefixes columns slot new kept within good =
    let len = length-set columns slot new in
    record {
      inverse = kept.inverse;
      rows = kept.rows;
      few = subst (λ n. n ≤ members) (sym len) kept.few;
      full = λ some. len ∙ kept.full some;
      each = λ s less. at_slot s (subst (λ n. s < n) len less) (cases_eq s slot);
    } where
      at_slot : (s : ℕ) → s < length columns → (s ≡ slot) ⊎ (s ≢ slot) → AreKept room prefixes (cells_at s (set columns slot new))
      at_slot s less (inl same) = subst (λ (n : ℕ). AreKept room prefixes (cells_at n (set columns slot new))) (sym same) (subst (AreKept room prefixes) (sym (get_or-set_same columns slot new no_cells within)) good)
      at_slot s less (inr other) = subst (AreKept room prefixes) (sym (get_or-set_other columns slot s new no_cells other)) (kept.each s less)

-- ---- the least dirty one

listed_above : (q : IpPrefix) (prefixes : List IpPrefix) (place : ℕ) (later : List ℕ) → AllByRecursion (λ other. prefix_cmp (prefix_in prefixes place) (prefix_in prefixes other) ≡ Less) later
    → is_listed q prefixes later ≡ true → prefix_cmp (prefix_in prefixes place) q ≡ Less
listed_above q prefixes place [] above listed = absurd (false≢true listed)
listed_above q prefixes place (other ∷ later) above listed = elim (or_cases (eq_by_cmp prefix_cmp q (prefix_in prefixes other)) (is_listed q prefixes later) listed) [
  | inl tied ↦ subst (λ (r : IpPrefix). prefix_cmp (prefix_in prefixes place) r ≡ Less) (sym (tied_same (prefix_in prefixes other) q tied)) above.0
  | inr rest ↦ listed_above q prefixes place later above.1 rest
]

pub first_listed : (prefixes : List IpPrefix) (place : ℕ) (later : List ℕ) → is_listed (prefix_in prefixes place) prefixes (place ∷ later) ≡ true
first_listed prefixes place later = or_left (eq_by_cmp prefix_cmp (prefix_in prefixes place) (prefix_in prefixes place)) (is_listed (prefix_in prefixes place) prefixes later) (itself (prefix_in prefixes place))

pub first_least : (q : IpPrefix) (prefixes : List IpPrefix) (place : ℕ) (later : List ℕ) → IsRising prefixes (place ∷ later) → is_listed q prefixes (place ∷ later) ≡ true → is_le (prefix_cmp (prefix_in prefixes place) q) ≡ true
first_least q prefixes place later rising listed = elim (or_cases (eq_by_cmp prefix_cmp q (prefix_in prefixes place)) (is_listed q prefixes later) listed) [
  | inl tied ↦ ap is_le (tied_back prefix_total q (prefix_in prefixes place) (is_equal (prefix_cmp q (prefix_in prefixes place)) tied))
  | inr rest ↦ ap is_le (listed_above q prefixes place later rising.0 rest)
]

-- what is listed after the first is taken
pub listed_rest : (q : IpPrefix) (prefixes : List IpPrefix) (place : ℕ) (later : List ℕ) → IsRising prefixes (place ∷ later)
    → is_listed q prefixes later ≡ (not (eq_by_cmp prefix_cmp q (prefix_in prefixes place)) && is_listed q prefixes (place ∷ later))
listed_rest q prefixes place later rising = by_test (eq_by_cmp prefix_cmp q (prefix_in prefixes place)) refl where
  none : q ≡ prefix_in prefixes place → is_listed q prefixes later ≡ true → ⊥
  none same listed = less_not_equal (sym (listed_above q prefixes place later rising.0 listed) ∙ subst (λ (r : IpPrefix). prefix_cmp r q ≡ Equal) same (tied_itself prefix_total q))

  by_test : (t : Bool) → eq_by_cmp prefix_cmp q (prefix_in prefixes place) ≡ t → is_listed q prefixes later ≡ (not t && (t || is_listed q prefixes later))
  by_test true tied = false_from_ne_true (is_listed q prefixes later) (none (tied_same (prefix_in prefixes place) q tied))
  by_test false apart = refl

-- the least dirty prefix of a slot by the first of its dirty places
pub table_least : (members room slot : ℕ) (places : List Place) (prefixes : List IpPrefix) (columns : List Cells) → IsKept members room places prefixes columns → slot < length columns
    → (place : ℕ) → first_of (cells_at slot columns).dirty ≡ Some place → IsLeast (is_dirty (table_of members places prefixes columns) slot) (Some (prefix_in prefixes place))
table_least members room slot places prefixes columns kept within place first = at (cells_at slot columns).dirty refl first (kept.each slot within).rising where
  at : (dirty : List ℕ) → (cells_at slot columns).dirty ≡ dirty → first_of dirty ≡ Some place → IsRising prefixes dirty → IsLeast (is_dirty (table_of members places prefixes columns) slot) (Some (prefix_in prefixes place))
  at [] is first rising = absurd (none-some place first)
  at (head ∷ later) is first rising = subst (λ (k : ℕ). IsLeast (is_dirty (table_of members places prefixes columns) slot) (Some (prefix_in prefixes k))) (same_Some head place first) (
    dirty_is members places prefixes columns slot (prefix_in prefixes head) ∙ ap (is_listed (prefix_in prefixes head) prefixes) is ∙ first_listed prefixes head later,
    λ q dirty. first_least q prefixes head later rising (sym (dirty_is members places prefixes columns slot q ∙ ap (is_listed q prefixes) is) ∙ dirty),
  )

pub table_none : (members slot : ℕ) (places : List Place) (prefixes : List IpPrefix) (columns : List Cells)
    → first_of (cells_at slot columns).dirty ≡ None → IsLeast (is_dirty (table_of members places prefixes columns) slot) None
table_none members slot places prefixes columns first = at (cells_at slot columns).dirty refl first where
  at : (dirty : List ℕ) → (cells_at slot columns).dirty ≡ dirty → first_of dirty ≡ None → (q : IpPrefix) → is_dirty (table_of members places prefixes columns) slot q ≡ false
  at [] is first q = dirty_is members places prefixes columns slot q ∙ ap (is_listed q prefixes) is
  at (head ∷ later) is first q = absurd (none-some head (sym first))

-- no column, so no cells
pub none_past : (slot : ℕ) (columns : List Cells) → length columns ≤ slot → first_of (cells_at slot columns).dirty ≡ None
none_past slot columns past = ap (λ (v : Cells). first_of v.dirty) (get_or_past columns slot no_cells past)

-- ---- the cells of one slot change

-- a table that answers alike but for one slot, where it answers by these cells
pub table_column : (members slot : ℕ) (places : List Place) (prefixes : List IpPrefix) (columns : List Cells) (new : Cells) (u : Table) → IsStrictlySortedBy prefix_cmp (keys_of places) → slot < length columns
    → (table_of members places prefixes columns).members ≡ u.members → ((q : IpPrefix) → is_opened (table_of members places prefixes columns) q ≡ is_opened u q)
    → ((q : IpPrefix) → number_of q places new.numbers ≡ cell u slot q) → ((s : ℕ) (q : IpPrefix) → s ≢ slot → number_of q places (cells_at s columns).numbers ≡ cell u s q)
    → ((q : IpPrefix) → is_listed q prefixes new.dirty ≡ is_dirty u slot q) → ((s : ℕ) (q : IpPrefix) → s ≢ slot → is_listed q prefixes (cells_at s columns).dirty ≡ is_dirty u s q)
    → table_of members places prefixes (set columns slot new) ≡ u
table_column members slot places prefixes columns new u sorted within members_are opened_are here_cells other_cells here_dirty other_dirty =
    same_table (table_of members places prefixes (set columns slot new)) u (members_same members places prefixes (set columns slot new) columns ∙ members_are)
    (λ q. opened_is members places prefixes (set columns slot new) q ∙ sym (opened_is members places prefixes columns q) ∙ opened_are q)
    (λ s q. cell_is members places prefixes (set columns slot new) sorted s q ∙ cells_same s q (cases_eq s slot))
    (λ s q. dirty_is members places prefixes (set columns slot new) s q ∙ dirty_same s q (cases_eq s slot)) where
      cells_same : (s : ℕ) (q : IpPrefix) → (s ≡ slot) ⊎ (s ≢ slot) → number_of q places (cells_at s (set columns slot new)).numbers ≡ cell u s q
      cells_same s q (inl same) =
          subst (λ (n : ℕ). number_of q places (cells_at n (set columns slot new)).numbers ≡ cell u n q) (sym same)
          (ap (λ (v : Cells). number_of q places v.numbers) (get_or-set_same columns slot new no_cells within) ∙ here_cells q)
      cells_same s q (inr other) = ap (λ (v : Cells). number_of q places v.numbers) (get_or-set_other columns slot s new no_cells other) ∙ other_cells s q other

      dirty_same : (s : ℕ) (q : IpPrefix) → (s ≡ slot) ⊎ (s ≢ slot) → is_listed q prefixes (cells_at s (set columns slot new)).dirty ≡ is_dirty u s q
      dirty_same s q (inl same) =
          subst (λ (n : ℕ). is_listed q prefixes (cells_at n (set columns slot new)).dirty ≡ is_dirty u n q) (sym same)
          (ap (λ (v : Cells). is_listed q prefixes v.dirty) (get_or-set_same columns slot new no_cells within) ∙ here_dirty q)
      dirty_same s q (inr other) = ap (λ (v : Cells). is_listed q prefixes v.dirty) (get_or-set_other columns slot s new no_cells other) ∙ other_dirty s q other

and_true_right : (t u : Bool) → u ≡ true → (t && u) ≡ t
and_true_right true u is = is
and_true_right false u is = refl

-- the table after the first of the dirty places of a slot is taken
pub table-take : (members room slot place : ℕ) (places : List Place) (prefixes : List IpPrefix) (columns : List Cells) (new : Cells) → IsKept members room places prefixes columns → slot < length columns
    → first_of (cells_at slot columns).dirty ≡ Some place → new ≡ record { numbers = (cells_at slot columns).numbers; dirty = drop 1 (cells_at slot columns).dirty }
    → table_of members places prefixes (set columns slot new) ≡ cleaned slot (Some (prefix_in prefixes place)) (table_of members places prefixes columns)
table-take members room slot place places prefixes columns new kept within first is =
    table_column members slot places prefixes columns new (cleaned slot (Some p) before) kept.inverse.sorted within refl (λ q. refl)
    (λ q. ap (λ (v : Cells). number_of q places v.numbers) is ∙ sym (cell_is members places prefixes columns kept.inverse.sorted slot q))
    (λ s q other. sym (cell_is members places prefixes columns kept.inverse.sorted s q))
    (λ q.
    ap (λ (v : Cells). is_listed q prefixes v.dirty) is
    ∙ rest (cells_at slot columns).dirty first (kept.each slot within).rising q
    ∙ sym (removed slot q ∙ ap (λ (t : Bool). not t && is_listed q prefixes (cells_at slot columns).dirty) (and_true_right (eq_by_cmp prefix_cmp q p) (eqb slot slot) (eq-eqb slot slot refl))))
    (λ s q other. sym (removed s q ∙ ap (λ (t : Bool). not t && is_listed q prefixes (cells_at s columns).dirty) (and_right (eq_by_cmp prefix_cmp q p) (eqb s slot) (ne_eqb s slot other)))) where
      p : IpPrefix
      p = prefix_in prefixes place

      before : Table
      before = table_of members places prefixes columns

      removed : (s : ℕ) (q : IpPrefix) → is_dirty (cleaned slot (Some p) before) s q ≡ (not (eq_by_cmp prefix_cmp q p && eqb s slot) && is_listed q prefixes (cells_at s columns).dirty)
      removed s q =
          set_of.contains-remove rib_total before.dirty (p, slot) (q, s)
          ∙ ap (λ (t : Bool). not t && is_dirty before s q) (rib_tied (q, s) (p, slot))
          ∙ ap (λ (t : Bool). not (eq_by_cmp prefix_cmp q p && eqb s slot) && t) (dirty_is members places prefixes columns s q)

      rest : (dirty : List ℕ) → first_of dirty ≡ Some place → IsRising prefixes dirty → (q : IpPrefix) → is_listed q prefixes (drop 1 dirty) ≡ (not (eq_by_cmp prefix_cmp q p) && is_listed q prefixes dirty)
      rest [] first rising q = absurd (none-some place first)
      rest (head ∷ later) first rising q =
          listed_rest q prefixes head later rising
          ∙ ap (λ (k : ℕ). not (eq_by_cmp prefix_cmp q (prefix_in prefixes k)) && is_listed q prefixes (head ∷ later)) (same_Some head place first)

-- ---- a slot is cleared

same_slot : (slot : ℕ) (a b : RibKey) → rib_cmp a b ≡ Equal → not (eqb b.1 slot) ≡ not (eqb a.1 slot)
same_slot slot a b tied = ap (λ (key : RibKey). not (eqb key.1 slot)) (sym (rib_exact a b tied))

pub cell-cleared : (slot s : ℕ) (q : IpPrefix) (t : Table) → cell (cleared slot t) s q ≡ cond (not (eqb s slot)) (cell t s q) None
cell-cleared slot s q t = map_of.get-retain_keys t.cells (λ key. not (eqb key.1 slot)) (q, s) (λ key tied. same_slot slot (q, s) key tied)

pub dirty-cleared : (slot s : ℕ) (q : IpPrefix) (t : Table) → is_dirty (cleared slot t) s q ≡ (is_dirty t s q && not (eqb s slot))
dirty-cleared slot s q t = set_of.contains-retain t.dirty (λ key. not (eqb key.1 slot)) (q, s) (λ key tied. same_slot slot (q, s) key tied)

none_in_all : (q : IpPrefix) (places : List Place) (n : ℕ) → number_of q places (replicate n no_number) ≡ None
none_in_all q places n = at (place_of q places) where
  in_range : (k : ℕ) → (k < n) ⊎ (n ≤ k) → number_at k (replicate n no_number) ≡ None
  in_range k (inl less) = ap route_no_of (get_or-replicate n k no_number no_number less)
  in_range k (inr past) = ap route_no_of (get_or_past (replicate n no_number) k no_number (omega (arith, length-replicate n no_number)))

  at : (o : Option ℕ) → option_and_then (λ k. number_at k (replicate n no_number)) o ≡ None
  at None = refl
  at (Some k) = in_range k (cases_lt k n)

-- the table after the cells of a slot are emptied and cleaned
pub table-clear : (members room slot n : ℕ) (places : List Place) (prefixes : List IpPrefix) (columns : List Cells) (new : Cells) → IsKept members room places prefixes columns → slot < length columns
    → new ≡ record { numbers = replicate n no_number; dirty = [] } → table_of members places prefixes (set columns slot new) ≡ cleared slot (table_of members places prefixes columns)
table-clear members room slot n places prefixes columns new kept within is =
    table_column members slot places prefixes columns new (cleared slot before) kept.inverse.sorted within refl (λ q. refl)
    (λ q. ap (λ (v : Cells). number_of q places v.numbers) is ∙ none_in_all q places n
    ∙ sym (cell-cleared slot slot q before ∙ cond-false (not (eqb slot slot)) (cell before slot q) None (ap not (eq-eqb slot slot refl))))
    (λ s q other. sym (cell-cleared slot s q before ∙ cond-true (not (eqb s slot)) (cell before s q) None (ap not (ne_eqb s slot other)) ∙ cell_is members places prefixes columns kept.inverse.sorted s q))
    (λ q. ap (λ (v : Cells). is_listed q prefixes v.dirty) is
    ∙ sym (dirty-cleared slot slot q before ∙ and_right (is_dirty before slot q) (not (eqb slot slot)) (ap not (eq-eqb slot slot refl))))
    (λ s q other. sym (dirty-cleared slot s q before ∙ and_true_right (is_dirty before s q) (not (eqb s slot)) (ap not (ne_eqb s slot other)) ∙ dirty_is members places prefixes columns s q)) where
      before : Table
      before = table_of members places prefixes columns

pub kept-clear : (room n : ℕ) (prefixes : List IpPrefix) (old new : Cells) → AreKept room prefixes old → n ≡ length old.numbers → new ≡ record { numbers = replicate n no_number; dirty = [] } → AreKept room prefixes new
kept-clear room n prefixes old new kept len is = let long = kept.long in
    subst (AreKept room prefixes) (sym is)
    (record {
      long = omega (arith, length-replicate n no_number);
      unused = λ k past. at k (cases_lt k n);
      below = tt;
      rising = tt;
    }) where
      at : (k : ℕ) → (k < n) ⊎ (n ≤ k) → get_or (replicate n no_number) k no_number ≡ no_number
      at k (inl less) = get_or-replicate n k no_number no_number less
      at k (inr past) = get_or_past (replicate n no_number) k no_number (omega (arith, length-replicate n no_number))

-- a slot without cells is clear
pub clear_past : (members room slot : ℕ) (places : List Place) (prefixes : List IpPrefix) (columns : List Cells) → IsKept members room places prefixes columns → length columns ≤ slot
    → table_of members places prefixes columns ≡ cleared slot (table_of members places prefixes columns)
clear_past members room slot places prefixes columns kept past =
    same_table before (cleared slot before) refl (λ q. refl)
    (λ s q. cells_same s q (cases_eq s slot) ∙ sym (cell-cleared slot s q before))
    (λ s q. dirty_same s q (cases_eq s slot) ∙ sym (dirty-cleared slot s q before)) where
      before : Table
      before = table_of members places prefixes columns

      none : (q : IpPrefix) → cell before slot q ≡ None
      none q = cell_is members places prefixes columns kept.inverse.sorted slot q ∙ ap (λ (v : Cells). number_of q places v.numbers) (get_or_past columns slot no_cells past) ∙ none_in_all q places 0

      clean : (q : IpPrefix) → is_dirty before slot q ≡ false
      clean q = dirty_is members places prefixes columns slot q ∙ ap (λ (v : Cells). is_listed q prefixes v.dirty) (get_or_past columns slot no_cells past)

      cells_same : (s : ℕ) (q : IpPrefix) → (s ≡ slot) ⊎ (s ≢ slot) → cell before s q ≡ cond (not (eqb s slot)) (cell before s q) None
      cells_same s q (inl same) =
          subst (λ (n : ℕ). cell before n q ≡ None) (sym same) (none q) ∙ sym (cond-false (not (eqb s slot)) (cell before s q) None (ap not (eq-eqb s slot same)))
      cells_same s q (inr other) = sym (cond-true (not (eqb s slot)) (cell before s q) None (ap not (ne_eqb s slot other)))

      dirty_same : (s : ℕ) (q : IpPrefix) → (s ≡ slot) ⊎ (s ≢ slot) → is_dirty before s q ≡ (is_dirty before s q && not (eqb s slot))
      dirty_same s q (inl same) =
          subst (λ (n : ℕ). is_dirty before n q ≡ false) (sym same) (clean q) ∙ sym (and_right (is_dirty before s q) (not (eqb s slot)) (ap not (eq-eqb s slot same)))
      dirty_same s q (inr other) = sym (and_true_right (is_dirty before s q) (not (eqb s slot)) (ap not (ne_eqb s slot other)))

-- ---- the cells of a slot are cleaned

dirty-unmarked : (slot s : ℕ) (q : IpPrefix) (t : Table) → is_dirty (unmarked slot t) s q ≡ (is_dirty t s q && not (eqb s slot))
dirty-unmarked slot s q t = set_of.contains-retain t.dirty (λ key. not (eqb key.1 slot)) (q, s) (λ key tied. same_slot slot (q, s) key tied)

pub table-clean : (members room slot : ℕ) (places : List Place) (prefixes : List IpPrefix) (columns : List Cells) (new : Cells) → IsKept members room places prefixes columns → slot < length columns
    → new ≡ record { numbers = (cells_at slot columns).numbers; dirty = [] } → table_of members places prefixes (set columns slot new) ≡ unmarked slot (table_of members places prefixes columns)
table-clean members room slot places prefixes columns new kept within is =
    table_column members slot places prefixes columns new (unmarked slot before) kept.inverse.sorted within refl (λ q. refl)
    (λ q. ap (λ (v : Cells). number_of q places v.numbers) is ∙ sym (cell_is members places prefixes columns kept.inverse.sorted slot q))
    (λ s q other. sym (cell_is members places prefixes columns kept.inverse.sorted s q))
    (λ q. ap (λ (v : Cells). is_listed q prefixes v.dirty) is
    ∙ sym (dirty-unmarked slot slot q before ∙ and_right (is_dirty before slot q) (not (eqb slot slot)) (ap not (eq-eqb slot slot refl))))
    (λ s q other. sym (dirty-unmarked slot s q before ∙ and_true_right (is_dirty before s q) (not (eqb s slot)) (ap not (ne_eqb s slot other)) ∙ dirty_is members places prefixes columns s q)) where
      before : Table
      before = table_of members places prefixes columns

pub kept-clean : (room : ℕ) (prefixes : List IpPrefix) (old new : Cells) → AreKept room prefixes old → new ≡ record { numbers = old.numbers; dirty = [] } → AreKept room prefixes new
kept-clean room prefixes old new kept is = subst (AreKept room prefixes) (sym is) (record { long = kept.long; unused = kept.unused; below = tt; rising = tt })

-- a slot without cells is clean
pub clean_past : (members slot : ℕ) (places : List Place) (prefixes : List IpPrefix) (columns : List Cells) → IsStrictlySortedBy prefix_cmp (keys_of places) → length columns ≤ slot
    → table_of members places prefixes columns ≡ unmarked slot (table_of members places prefixes columns)
clean_past members slot places prefixes columns sorted past =
    same_table before (unmarked slot before) refl (λ q. refl) (λ s q. refl)
    (λ s q. dirty_same s q (cases_eq s slot) ∙ sym (dirty-unmarked slot s q before)) where
      before : Table
      before = table_of members places prefixes columns

      clean : (q : IpPrefix) → is_dirty before slot q ≡ false
      clean q = dirty_is members places prefixes columns slot q ∙ ap (λ (v : Cells). is_listed q prefixes v.dirty) (get_or_past columns slot no_cells past)

      dirty_same : (s : ℕ) (q : IpPrefix) → (s ≡ slot) ⊎ (s ≢ slot) → is_dirty before s q ≡ (is_dirty before s q && not (eqb s slot))
      dirty_same s q (inl same) =
          subst (λ (n : ℕ). is_dirty before n q ≡ false) (sym same) (clean q) ∙ sym (and_right (is_dirty before s q) (not (eqb s slot)) (ap not (eq-eqb s slot same)))
      dirty_same s q (inr other) = sym (and_true_right (is_dirty before s q) (not (eqb s slot)) (ap not (ne_eqb s slot other)))
