-- What is known where a prefix has its place.
use Rattle.std.proofs.Common.{◌≡◌, ℕ, ◌<◌, ◌≤◌, true, ◌&&◌, eqb, ltb, List, [], ◌∷◌, length, get_or, Option, Some, None, is_some, refl, sym, ap, subst, ◌∙◌, arith}
use Rattle.std.specs.Map.{keys_of}
use Rattle.std.specs.List.Sorted.{IsStrictlySortedBy}
use Rattle.std.specs.Option.{option_and_then}
use Rattle.std.proofs.lemmas.Bool.{false≢true, ltb-true, eqb-true, and_parts}
use Rattle.std.proofs.lemmas.Option.{none-some, same_Some}
use Rattle.std.proofs.lemmas.List.{get_or_read, get_or_past}
use Rattle.std.specs.List.{AllByRecursion}
use Rattle.std.specs.FinMap as map_of
use Rattle.std.specs.FinSet as set_of
use Rattle.rcp_model.specs.Ribs.{rib_cmp}
use Rattle.rcp_base.specs.IpPrefix.{IpPrefix, prefix_cmp}
use Rattle.out_table.specs.Cells.{Cells, no_cells, number_at, first_of}
use Rattle.out_table.specs.Tables.{Table, cell, is_opened, new_table}
use Rattle.out_table.specs.Places.{Place, place_of, prefix_in, no_prefix, AreInverse, cells_at, number_of, AreKept, IsKept, table_of}
use Rattle.out_table.proofs.EntryLemmas.{cell_is, dirty_is, opened_is, same_table}
use Rattle.out_table.proofs.TableLemmas.{members_are}

pub members_by : (t : Table) (members : ℕ) (places : List Place) (prefixes : List IpPrefix) (columns : List Cells) → table_of members places prefixes columns ≡ t → t.members ≡ members
members_by t members places prefixes columns is = ap (λ (u : Table). u.members) (sym is) ∙ members_are members places prefixes columns

pub cell_by : (t : Table) (members : ℕ) (places : List Place) (prefixes : List IpPrefix) (columns : List Cells) → table_of members places prefixes columns ≡ t → IsStrictlySortedBy prefix_cmp (keys_of places)
    → (i slot : ℕ) → i ≡ slot → (p : IpPrefix) → cell t slot p ≡ number_of p places (cells_at i columns).numbers
cell_by t members places prefixes columns is sorted i slot at p =
    ap (λ (u : Table). cell u slot p) (sym is) ∙ cell_is members places prefixes columns sorted slot p ∙ ap (λ (s : ℕ). number_of p places (cells_at s columns).numbers) (sym at)

pub found_within : (members room : ℕ) (places : List Place) (prefixes : List IpPrefix) (columns : List Cells) → IsKept members room places prefixes columns
    → (p : IpPrefix) (place : ℕ) → Some place ≡ place_of p places → place < length prefixes
found_within members room places prefixes columns kept p place found = (kept.inverse.placed p place (sym found)).0

pub found_columns : (members room : ℕ) (places : List Place) (prefixes : List IpPrefix) (columns : List Cells) → IsKept members room places prefixes columns
    → (p : IpPrefix) (place : ℕ) → Some place ≡ place_of p places → length columns ≡ members
found_columns members room places prefixes columns kept p place found =
    let within = found_within members room places prefixes columns kept p place found in
    let rows = kept.rows in
    kept.full (omega arith)

pub found_cell : (members room : ℕ) (places : List Place) (prefixes : List IpPrefix) (columns : List Cells) → IsKept members room places prefixes columns
    → (p : IpPrefix) (place : ℕ) → Some place ≡ place_of p places → (i : ℕ) → i < length columns → place < length (cells_at i columns).numbers
found_cell members room places prefixes columns kept p place found i less =
    let within = found_within members room places prefixes columns kept p place found in
    let rows = kept.rows in
    let long = (kept.each i less).long in
    omega arith

-- the cells of a slot below the number of members
pub found_slot : (t : Table) (members room : ℕ) (places : List Place) (prefixes : List IpPrefix) (columns : List Cells) → table_of members places prefixes columns ≡ t → IsKept members room places prefixes columns
    → (p : IpPrefix) (place : ℕ) → Some place ≡ place_of p places → (i slot : ℕ) → i ≡ slot → slot < t.members → i < length columns
found_slot t members room places prefixes columns is kept p place found i slot at less =
    let all = found_columns members room places prefixes columns kept p place found in
    let count = members_by t members places prefixes columns is in
    omega arith

pub never_none : (t : Table) (members : ℕ) (places : List Place) (prefixes : List IpPrefix) (columns : List Cells) → table_of members places prefixes columns ≡ t
    → (p : IpPrefix) → is_opened t p ≡ true → None ≡ place_of p places → ⊥
never_none t members places prefixes columns is p opened none =
    false≢true (ap is_some none ∙ sym (opened_is members places prefixes columns p) ∙ ap (λ (u : Table). is_opened u p) is ∙ opened)

pub kept_less : (room : ℕ) (prefixes : List IpPrefix) (cells : Cells) → length prefixes ≤ room → AreKept room prefixes cells → AreKept (length prefixes) prefixes cells
kept_less room prefixes cells rows kept = let long = kept.long in record { long = omega arith; unused = kept.unused; below = kept.below; rising = kept.rising }

pub number_none : (p : IpPrefix) (places : List Place) (numbers : List ℕ) → None ≡ place_of p places → number_of p places numbers ≡ None
number_none p places numbers none = ap (λ (o : Option ℕ). option_and_then (λ k. number_at k numbers) o) (sym none)

pub number_some : (p : IpPrefix) (places : List Place) (numbers : List ℕ) (place : ℕ) → Some place ≡ place_of p places → number_of p places numbers ≡ number_at place numbers
number_some p places numbers place found = ap (λ (o : Option ℕ). option_and_then (λ k. number_at k numbers) o) (sym found)

-- the place that was found last is that of the prefix
pub found_here : (places : List Place) (prefixes : List IpPrefix) (last : ℕ) (q p : IpPrefix) → AreInverse places prefixes → true ≡ ltb last (length prefixes) → q ≡ get_or prefixes last q
    → true ≡ (eqb q.addr p.addr && eqb q.len p.len) → Some last ≡ place_of p places
found_here places prefixes last q p inverse within read same =
    let less : last < length prefixes = ltb-true last (length prefixes) (sym within) in
    let parts = and_parts (eqb q.addr p.addr) (eqb q.len p.len) (sym same) in
    let addr = eqb-true q.addr p.addr parts.0 in
    let len = eqb-true q.len p.len parts.1 in
    let equal : q ≡ p = λ i. record { addr = addr i; len = len i } in
    sym (inverse.found last less) ∙ ap (λ (r : IpPrefix). place_of r places) (sym (get_or_read prefixes last q less read no_prefix) ∙ equal)

no_order : IsStrictlySortedBy prefix_cmp (keys_of {K = IpPrefix} {X = ℕ} [])
unfolding IsStrictlySortedBy
no_order = tt

-- a table without prefixes
pub table_new : (members : ℕ) → table_of members [] [] [] ≡ new_table members
table_new members =
    same_table (table_of members [] [] []) (new_table members) (members_are members [] [] [])
    (λ q. opened_is members [] [] [] q ∙ sym (set_of.contains-empty prefix_cmp q))
    (λ s q. cell_is members [] [] [] no_order s q ∙ sym (map_of.get-empty rib_cmp (q, s)))
    (λ s q. dirty_is members [] [] [] s q ∙ sym (set_of.contains-empty rib_cmp (q, s)))

pub kept_new : (members : ℕ) → IsKept members 0 [] [] []
kept_new members = record {
  inverse = record { sorted = no_order; placed = λ q k found. absurd (none-some k found); found = λ k within. absurd (omega arith) };
  rows = omega arith;
  few = omega arith;
  full = λ some. absurd (omega arith);
  each = λ s less. absurd (omega arith);
}

-- ---- the first of the dirty places

pub first_below : (room : ℕ) (prefixes : List IpPrefix) (cells : Cells) (place : ℕ) → AreKept room prefixes cells → Some place ≡ first_of cells.dirty → place < length prefixes
first_below room prefixes cells place kept first = at cells.dirty first kept.below where
  at : (dirty : List ℕ) → Some place ≡ first_of dirty → AllByRecursion (λ k. k < length prefixes) dirty → place < length prefixes
  at [] first below = absurd (none-some place (sym first))
  at (head ∷ later) first below = subst (λ k. k < length prefixes) (same_Some head place (sym first)) below.0

-- the number at a prefix by its place
pub value_by : (t : Table) (members : ℕ) (places : List Place) (prefixes : List IpPrefix) (columns : List Cells) → table_of members places prefixes columns ≡ t → AreInverse places prefixes
    → (i slot : ℕ) → i ≡ slot → (place : ℕ) → place < length prefixes → number_at place (cells_at i columns).numbers ≡ cell t slot (prefix_in prefixes place)
value_by t members places prefixes columns is inverse i slot at place within =
    sym (cell_by t members places prefixes columns is inverse.sorted i slot at (prefix_in prefixes place)
    ∙ number_some (prefix_in prefixes place) places (cells_at i columns).numbers place (sym (inverse.found place within)))

-- a slot without cells
pub cell_past : (t : Table) (members : ℕ) (places : List Place) (prefixes : List IpPrefix) (columns : List Cells) → table_of members places prefixes columns ≡ t → IsStrictlySortedBy prefix_cmp (keys_of places)
    → (i slot : ℕ) → i ≡ slot → length columns ≤ i → (p : IpPrefix) → cell t slot p ≡ None
cell_past t members places prefixes columns is sorted i slot at past p =
    cell_by t members places prefixes columns is sorted i slot at p
    ∙ ap (λ (v : Cells). number_of p places v.numbers) (get_or_past columns i no_cells past)
    ∙ none (place_of p places) where
      none : (o : Option ℕ) → option_and_then (λ k. number_at k []) o ≡ None
      none None = refl
      none (Some k) = refl
