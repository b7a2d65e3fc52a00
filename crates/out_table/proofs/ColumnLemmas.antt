-- What the cells of each slot are where they lie in one list.
use Rattle.std.proofs.Common.{◌≡◌, ◌≢◌, ℕ, ◌+◌, ◌-◌, ◌*◌, ◌/◌, ◌%◌, ◌^◌, ◌<◌, ◌≤◌, false, not, eqb, ltb, List, [], length, get_or, replicate, Option, Some, None, is_some, IfSome, refl, sym, ap, subst, ◌∙◌, arith, ◌⊎◌, inl, inr}
use Rattle.std.proofs.Math.ListN.{set}
use Rattle.std.proofs.Math.Nat.{mul_comm, le_refl}
use Rattle.std.proofs.lemmas.Bool.{cases_eq, cases_lt, lt-ltb, ltb-true, eq-eqb, ne_eqb, cond-true, cond-false, false_from_ne_true}
use Rattle.std.proofs.lemmas.Nat.{mul-add-lt, div_below, mod_below, le-div, mul-le, same_from_place, div-add-mod'}
use Rattle.std.proofs.lemmas.List.{get_or-set_same, get_or-set_other, length-set, get_or_past, ext_get_or, get_or_read, get_or-replicate, length-replicate}
use Rattle.std.proofs.lemmas.List.FromFn.{get_or-map-range_with_len, length-map-range_with_len}
use Rattle.rcp_model.specs.Ribs.{route_no_of}
use Rattle.out_table.specs.Cells.{Cells, no_cells, no_number, held_for, is_same, Keeps}
use Rattle.out_table.specs.Places.{cells_at, KeepsAll}
use Rattle.out_table.specs.Columns.{DirtyOf, ColumnsOf, no_dirty, dirty_at, index_of, column_of, cells_of, columns_in, AreLaid, Roomier, Empties}

-- ---- where a cell lies

line_end : (a b r : ℕ) → a < b → r < 16 → a * 16 + r < b * 16
line_end a b r less low = omega arith

line_past : (t q s r : ℕ) → t ≤ q → t * 16 ≤ (q + s) * 16 + r
line_past t q s r le = omega arith

pub index_within : (members lines slot place : ℕ) → slot < members → place < lines * 16 → index_of members slot place < members * lines * 16
index_within members lines slot place seat within =
    let row : place / 16 < lines = div_below place 16 lines (omega arith) within in
    line_end (place / 16 * members + slot) (members * lines) (place % 16) (mul-add-lt (place / 16) members slot lines row seat) (mod_below place 16 (omega arith))

pub index_past : (members lines slot place : ℕ) → lines * 16 ≤ place → members * lines * 16 ≤ index_of members slot place
index_past members lines slot place past =
    let row : lines ≤ place / 16 = le-div lines place 16 (omega arith) past in
    let rows : lines * members ≤ place / 16 * members = mul-le lines members (place / 16) members row (le_refl members) in
    line_past (members * lines) (place / 16 * members) slot (place % 16) (subst (λ n. n ≤ place / 16 * members) (mul_comm lines members) rows)

pub index_apart : (members s slot k place : ℕ) → s < members → slot < members → index_of members s k ≡ index_of members slot place → (s ≡ slot) × (k ≡ place)
index_apart members s slot k place first second same =
    let outer = same_from_place (k / 16 * members + s) (k % 16) (place / 16 * members + slot) (place % 16) 16 (mod_below k 16 (omega arith)) (mod_below place 16 (omega arith)) same in
    let inner = same_from_place (k / 16) s (place / 16) slot members first second outer.0 in
    (inner.1, sym (div-add-mod' k 16) ∙ ap (λ n. n * 16 + k % 16) inner.0 ∙ ap (λ n. place / 16 * 16 + n) outer.1 ∙ div-add-mod' place 16)

-- ---- the cells of one slot

pub length_column : (members lines slot : ℕ) (numbers : List ℕ) → length (column_of members lines slot numbers) ≡ lines * 16
length_column members lines slot numbers = length-map-range_with_len (λ place. get_or numbers (index_of members slot place) no_number) 0 (lines * 16)

pub column_get : (members lines slot : ℕ) (numbers : List ℕ) → length numbers ≡ members * lines * 16 → (place : ℕ) → get_or (column_of members lines slot numbers) place no_number ≡ get_or numbers (index_of members slot place) no_number
column_get members lines slot numbers whole place = at (cases_lt place (lines * 16)) where
  at : (place < lines * 16) ⊎ (lines * 16 ≤ place) → get_or (column_of members lines slot numbers) place no_number ≡ get_or numbers (index_of members slot place) no_number
  at (inl within) = get_or-map-range_with_len (λ place. get_or numbers (index_of members slot place) no_number) 0 (lines * 16) place place no_number within (omega arith)
  at (inr past) =
      get_or_past (column_of members lines slot numbers) place no_number (subst (λ n. n ≤ place) (sym (length_column members lines slot numbers)) past)
      ∙ sym (get_or_past numbers (index_of members slot place) no_number (subst (λ n. n ≤ index_of members slot place) (sym whole) (index_past members lines slot place past)))

-- the numbers of a slot by what is read of them
column_is : (members lines slot : ℕ) (numbers column : List ℕ) → length numbers ≡ members * lines * 16 → length column ≡ lines * 16
    → ((place : ℕ) → place < lines * 16 → get_or numbers (index_of members slot place) no_number ≡ get_or column place no_number) → column_of members lines slot numbers ≡ column
column_is members lines slot numbers column whole long same =
    ext_get_or no_number (column_of members lines slot numbers) column (length_column members lines slot numbers ∙ sym long)
    (λ place within. column_get members lines slot numbers whole place ∙ same place (subst (λ n. place < n) (length_column members lines slot numbers) within))

-- ---- the cells of each slot

pub length_columns : (members lines : ℕ) (numbers : List ℕ) (dirty : List DirtyOf) → length (columns_in members lines numbers dirty) ≡ length dirty
unfolding columns_in
length_columns members lines numbers dirty = length-map-range_with_len (cells_of members lines numbers dirty) 0 (length dirty)

pub cells_are : (members lines slot : ℕ) (numbers : List ℕ) (dirty : List DirtyOf) → slot < length dirty → cells_at slot (columns_in members lines numbers dirty) ≡ cells_of members lines numbers dirty slot
unfolding columns_in
cells_are members lines slot numbers dirty within = get_or-map-range_with_len (cells_of members lines numbers dirty) 0 (length dirty) slot slot no_cells within (omega arith)

pub columns_none : (members : ℕ) → columns_in members 0 [] [] ≡ []
unfolding columns_in
columns_none members = refl

pub cells_none : (members lines slot : ℕ) (numbers : List ℕ) (dirty : List DirtyOf) → length dirty ≤ slot → cells_at slot (columns_in members lines numbers dirty) ≡ no_cells
cells_none members lines slot numbers dirty past =
    get_or_past (columns_in members lines numbers dirty) slot no_cells (subst (λ n. n ≤ slot) (sym (length_columns members lines numbers dirty)) past)

pub long_at : (members lines slot : ℕ) (numbers : List ℕ) (dirty : List DirtyOf) → slot < length dirty → length (cells_at slot (columns_in members lines numbers dirty)).numbers ≡ lines * 16
long_at members lines slot numbers dirty within = ap (λ (v : Cells). length v.numbers) (cells_are members lines slot numbers dirty within) ∙ length_column members lines slot numbers

pub dirty_are : (members lines slot : ℕ) (numbers : List ℕ) (dirty : List DirtyOf) → slot < length dirty → (cells_at slot (columns_in members lines numbers dirty)).dirty ≡ (dirty_at slot dirty).places
dirty_are members lines slot numbers dirty within = ap (λ (v : Cells). v.dirty) (cells_are members lines slot numbers dirty within)

-- the number in a cell
pub number_is : (members lines slot : ℕ) (numbers : List ℕ) (dirty : List DirtyOf) → AreLaid members lines numbers dirty → slot < length dirty
    → (place : ℕ) → get_or (cells_at slot (columns_in members lines numbers dirty)).numbers place no_number ≡ get_or numbers (index_of members slot place) no_number
number_is members lines slot numbers dirty laid within place =
    ap (λ (v : Cells). get_or v.numbers place no_number) (cells_are members lines slot numbers dirty within) ∙ column_get members lines slot numbers laid.whole place

-- where a cell that there is lies
pub lies_within : (members lines slot : ℕ) (numbers : List ℕ) (dirty : List DirtyOf) → AreLaid members lines numbers dirty → slot < length dirty
    → (place : ℕ) → place < length (cells_at slot (columns_in members lines numbers dirty)).numbers → index_of members slot place < length numbers
lies_within members lines slot numbers dirty laid within place less =
    let few = laid.few in
    subst (λ n. index_of members slot place < n) (sym laid.whole)
    (index_within members lines slot place (omega arith) (subst (λ n. place < n) (long_at members lines slot numbers dirty within) less))

-- the cells of one slot change
columns_set : (members lines slot : ℕ) (numbers others : List ℕ) (dirty now : List DirtyOf) (new : Cells) → length now ≡ length dirty → slot < length dirty → cells_of members lines others now slot ≡ new
    → ((s : ℕ) → s < length dirty → s ≢ slot → cells_of members lines others now s ≡ cells_of members lines numbers dirty s)
    → columns_in members lines others now ≡ set (columns_in members lines numbers dirty) slot new
columns_set members lines slot numbers others dirty now new len within here elsewhere =
    ext_get_or no_cells (columns_in members lines others now) (set (columns_in members lines numbers dirty) slot new)
    (length_columns members lines others now ∙ len ∙ sym (length-set (columns_in members lines numbers dirty) slot new ∙ length_columns members lines numbers dirty))
    (λ s less. at s (subst (λ n. s < n) (length_columns members lines others now ∙ len) less) (cases_eq s slot)) where
      at : (s : ℕ) → s < length dirty → (s ≡ slot) ⊎ (s ≢ slot) → cells_at s (columns_in members lines others now) ≡ cells_at s (set (columns_in members lines numbers dirty) slot new)
      at s less (inl same) =
          cells_are members lines s others now (subst (λ n. s < n) (sym len) less)
          ∙ ap (cells_of members lines others now) same ∙ here
          ∙ sym (ap (λ n. cells_at n (set (columns_in members lines numbers dirty) slot new)) same
          ∙ get_or-set_same (columns_in members lines numbers dirty) slot new no_cells (subst (λ n. slot < n) (sym (length_columns members lines numbers dirty)) within))
      at s less (inr other) =
          cells_are members lines s others now (subst (λ n. s < n) (sym len) less)
          ∙ elsewhere s less other
          ∙ sym (get_or-set_other (columns_in members lines numbers dirty) slot s new no_cells other ∙ cells_are members lines s numbers dirty less)

-- a cell is written
pub columns_written : (members lines slot place number : ℕ) (numbers : List ℕ) (dirty : List DirtyOf) → AreLaid members lines numbers dirty → slot < length dirty
    → place < length (cells_at slot (columns_in members lines numbers dirty)).numbers
    → columns_in members lines (set numbers (index_of members slot place) number) dirty
    ≡ set (columns_in members lines numbers dirty) slot
    (record { numbers = set (cells_at slot (columns_in members lines numbers dirty)).numbers place number; dirty = (cells_at slot (columns_in members lines numbers dirty)).dirty })
columns_written members lines slot place number numbers dirty laid within less =
    columns_set members lines slot numbers written dirty dirty _ refl within
    (subst (λ (v : Cells). cells_of members lines written dirty slot ≡ record { numbers = set v.numbers place number; dirty = v.dirty }) (sym (cells_are members lines slot numbers dirty within))
    (ap (λ (ns : List ℕ). let v : Cells = record { numbers = ns; dirty = (dirty_at slot dirty).places } in v) here))
    (λ s seat other. ap (λ (ns : List ℕ). let v : Cells = record { numbers = ns; dirty = (dirty_at s dirty).places } in v) (elsewhere s seat other)) where
      index : ℕ
      index = index_of members slot place

      written : List ℕ
      written = set numbers index number

      inside : place < lines * 16
      inside = subst (λ n. place < n) (long_at members lines slot numbers dirty within) less

      whole : length written ≡ members * lines * 16
      whole = length-set numbers index number ∙ laid.whole

      seat : slot < members
      seat = let few = laid.few in omega arith

      here : column_of members lines slot written ≡ set (column_of members lines slot numbers) place number
      here = column_is members lines slot written (set (column_of members lines slot numbers) place number) whole (length-set (column_of members lines slot numbers) place number ∙ length_column members lines slot numbers) (λ k below. at k below (cases_eq k place)) where
        at : (k : ℕ) → k < lines * 16 → (k ≡ place) ⊎ (k ≢ place) → get_or written (index_of members slot k) no_number ≡ get_or (set (column_of members lines slot numbers) place number) k no_number
        at k below (inl same) =
            ap (λ n. get_or written (index_of members slot n) no_number) same
            ∙ get_or-set_same numbers index number no_number (lies_within members lines slot numbers dirty laid within place less)
            ∙ sym (ap (λ n. get_or (set (column_of members lines slot numbers) place number) n no_number) same
            ∙ get_or-set_same (column_of members lines slot numbers) place number no_number (subst (λ n. place < n) (sym (length_column members lines slot numbers)) inside))
        at k below (inr other) =
            get_or-set_other numbers index (index_of members slot k) number no_number (λ same. other (index_apart members slot slot k place seat seat same).1)
            ∙ sym (get_or-set_other (column_of members lines slot numbers) place k number no_number other ∙ column_get members lines slot numbers laid.whole k)

      elsewhere : (s : ℕ) → s < length dirty → s ≢ slot → column_of members lines s written ≡ column_of members lines s numbers
      elsewhere s less' other =
          let few = laid.few in
          column_is members lines s written (column_of members lines s numbers) whole (length_column members lines s numbers)
          (λ k below. get_or-set_other numbers index (index_of members s k) number no_number (λ same. other (index_apart members s slot k place (omega arith) seat same).0)
          ∙ sym (column_get members lines s numbers laid.whole k))

-- the dirty places of a slot change
pub columns_marked : (members lines slot : ℕ) (numbers : List ℕ) (dirty : List DirtyOf) (new : DirtyOf) → slot < length dirty
    → columns_in members lines numbers (set dirty slot new)
    ≡ set (columns_in members lines numbers dirty) slot (record { numbers = (cells_at slot (columns_in members lines numbers dirty)).numbers; dirty = new.places })
columns_marked members lines slot numbers dirty new within =
    columns_set members lines slot numbers numbers dirty (set dirty slot new) _ (length-set dirty slot new) within
    (subst (λ (v : Cells). cells_of members lines numbers (set dirty slot new) slot ≡ record { numbers = v.numbers; dirty = new.places }) (sym (cells_are members lines slot numbers dirty within))
    (ap (λ (d : DirtyOf). let v : Cells = record { numbers = column_of members lines slot numbers; dirty = d.places } in v) (get_or-set_same dirty slot new no_dirty within)))
    (λ s less other. ap (λ (d : DirtyOf). let v : Cells = record { numbers = column_of members lines s numbers; dirty = d.places } in v) (get_or-set_other dirty slot s new no_dirty other))

-- the cells of a slot are emptied and cleaned
pub columns_emptied : (members lines slot : ℕ) (numbers others : List ℕ) (dirty : List DirtyOf) (new : DirtyOf) → AreLaid members lines numbers dirty → slot < length dirty → Empties members slot (lines * 16) numbers others
    → columns_in members lines others (set dirty slot new)
    ≡ set (columns_in members lines numbers dirty) slot (record { numbers = replicate (length (cells_at slot (columns_in members lines numbers dirty)).numbers) no_number; dirty = new.places })
columns_emptied members lines slot numbers others dirty new laid within empties =
    columns_set members lines slot numbers others dirty (set dirty slot new) _ (length-set dirty slot new) within
    (subst (λ (n : ℕ). cells_of members lines others (set dirty slot new) slot ≡ record { numbers = replicate n no_number; dirty = new.places }) (sym (long_at members lines slot numbers dirty within))
    (λ i. record { numbers = here i; dirty = (get_or-set_same dirty slot new no_dirty within i).places }))
    (λ s less other. λ i. record { numbers = elsewhere s less other i; dirty = (get_or-set_other dirty slot s new no_dirty other i).places }) where
      whole : length others ≡ members * lines * 16
      whole = empties.len ∙ laid.whole

      here : column_of members lines slot others ≡ replicate (lines * 16) no_number
      here = column_is members lines slot others (replicate (lines * 16) no_number) whole (length-replicate (lines * 16) no_number) (λ k below. empties.here k below ∙ sym (get_or-replicate (lines * 16) k no_number no_number below))

      elsewhere : (s : ℕ) → s < length dirty → s ≢ slot → column_of members lines s others ≡ column_of members lines s numbers
      elsewhere s less other =
          let few = laid.few in
          column_is members lines s others (column_of members lines s numbers) whole (length_column members lines s numbers)
          (λ k below. empties.others s k (omega arith) other ∙ sym (column_get members lines s numbers laid.whole k))

-- ---- room is made

pub roomier-trans : (a b c : List DirtyOf) → Roomier a b → Roomier b c → Roomier a c
roomier-trans a b c h k = record {
  more = let first = h.more in let second = k.more in omega arith;
  same = λ slot. k.same slot ∙ h.same slot;
  wider = λ slot. let first = h.wider slot in let second = k.wider slot in omega arith;
}

-- each slot's cells are kept where there is more room
pub keeps_columns : (members lines more : ℕ) (numbers longer : List ℕ) (dirty now : List DirtyOf) → AreLaid members lines numbers dirty → Roomier dirty now → length now ≤ members → lines ≤ more
    → length longer ≡ members * more * 16 → ((k : ℕ) → get_or longer k no_number ≡ get_or numbers k no_number) → KeepsAll (columns_in members lines numbers dirty) (columns_in members more longer now)
keeps_columns members lines more numbers longer dirty now laid roomier few le whole same = record {
  more = subst (λ n. n ≤ length (columns_in members more longer now)) (sym (length_columns members lines numbers dirty)) (subst (λ n. length dirty ≤ n) (sym (length_columns members more longer now)) roomier.more);
  each = λ slot. at slot (cases_lt slot (length dirty)) (cases_lt slot (length now));
} where
  at : (slot : ℕ) → (slot < length dirty) ⊎ (length dirty ≤ slot) → (slot < length now) ⊎ (length now ≤ slot) → Keeps (cells_at slot (columns_in members lines numbers dirty)) (cells_at slot (columns_in members more longer now))
  at slot (inl within) (inl less) =
      subst (λ (v : Cells). Keeps v (cells_at slot (columns_in members more longer now))) (sym (cells_are members lines slot numbers dirty within))
      (subst (λ (v : Cells). Keeps (cells_of members lines numbers dirty slot) v) (sym (cells_are members more slot longer now less))
      (record {
        numbers = λ place. column_get members more slot longer whole place ∙ same (index_of members slot place) ∙ sym (column_get members lines slot numbers laid.whole place);
        more = subst (λ n. n ≤ length (column_of members more slot longer)) (sym (length_column members lines slot numbers)) (subst (λ n. lines * 16 ≤ n) (sym (length_column members more slot longer)) (omega arith));
        dirty = roomier.same slot;
      }))
  at slot (inr past) (inl less) =
      subst (λ (v : Cells). Keeps v (cells_at slot (columns_in members more longer now))) (sym (cells_none members lines slot numbers dirty past))
      (subst (λ (v : Cells). Keeps no_cells v) (sym (cells_are members more slot longer now less))
      (record {
        numbers = λ place. column_get members more slot longer whole place ∙ same (index_of members slot place) ∙ get_or_past numbers (index_of members slot place) no_number (none place);
        more = omega arith;
        dirty = roomier.same slot ∙ ap (λ (d : DirtyOf). d.places) (get_or_past dirty slot no_dirty past);
      })) where
        no_lines : (0 < lines) ⊎ (lines ≤ 0) → lines ≡ 0
        no_lines (inl some) = let all = laid.full some in absurd (omega arith)
        no_lines (inr none) = omega arith

        none : (place : ℕ) → length numbers ≤ index_of members slot place
        none place = subst (λ n. n ≤ index_of members slot place) (sym (laid.whole ∙ ap (λ n. members * n * 16) (no_lines (cases_lt 0 lines)) ∙ ap (λ n. n * 16) (mul_comm members 0))) (omega arith)
  at slot (inl within) (inr end) = let more = roomier.more in absurd (omega arith)
  at slot (inr past) (inr end) =
      subst (λ (v : Cells). Keeps v (cells_at slot (columns_in members more longer now))) (sym (cells_none members lines slot numbers dirty past))
      (subst (λ (v : Cells). Keeps no_cells v) (sym (cells_none members more slot longer now end)) (record { numbers = λ place. refl; more = omega arith; dirty = refl }))

-- ---- by the cells that contracts see

module _ (members lines : ℕ) (numbers : List ℕ) (dirty : List DirtyOf) (laid : AreLaid members lines numbers dirty) (items : List Cells) (is : columns_in members lines numbers dirty ≡ items) (slot : ℕ) (seat : slot < length items) where
  pub seat_of : slot < length dirty
  seat_of = subst (λ n. slot < n) (ap length (sym is) ∙ length_columns members lines numbers dirty) seat

  pub member_of : slot < members
  member_of = let few = laid.few in let less = seat_of in omega arith

  pub index_in : (place : ℕ) → place < length (cells_at slot items).numbers → index_of members slot place < length numbers
  index_in place less = lies_within members lines slot numbers dirty laid seat_of place (subst (λ (l : List Cells). place < length (cells_at slot l).numbers) (sym is) less)

  -- what is read where the cell lies
  pub read_at : (place at value : ℕ) → at ≡ index_of members slot place → at < length numbers → value ≡ get_or numbers at value → get_or (cells_at slot items).numbers place no_number ≡ value
  read_at place at value lies within read =
      ap (λ (l : List Cells). get_or (cells_at slot l).numbers place no_number) (sym is)
      ∙ number_is members lines slot numbers dirty laid seat_of place
      ∙ ap (λ n. get_or numbers n no_number) (sym lies)
      ∙ sym (get_or_read numbers at value within read no_number)

  -- no cell lies past the lines
  pub read_past : (place : ℕ) → lines * 16 ≤ place → get_or (cells_at slot items).numbers place no_number ≡ no_number
  read_past place past =
      ap (λ (l : List Cells). get_or (cells_at slot l).numbers place no_number) (sym is)
      ∙ number_is members lines slot numbers dirty laid seat_of place
      ∙ get_or_past numbers (index_of members slot place) no_number (subst (λ n. n ≤ index_of members slot place) (sym laid.whole) (index_past members lines slot place past))

  pub dirty_read : (value : DirtyOf) → value ≡ get_or dirty slot value → value.places ≡ (cells_at slot items).dirty
  dirty_read value read =
      ap (λ (d : DirtyOf). d.places) (get_or_read dirty slot value seat_of read no_dirty)
      ∙ sym (dirty_are members lines slot numbers dirty seat_of)
      ∙ ap (λ (l : List Cells). (cells_at slot l).dirty) is

  pub room_read : (value : DirtyOf) → value ≡ get_or dirty slot value → length (cells_at slot items).numbers ≤ value.room
  room_read value read =
      subst (λ (d : DirtyOf). length (cells_at slot items).numbers ≤ d.room) (sym (get_or_read dirty slot value seat_of read no_dirty))
      (subst (λ n. n ≤ (dirty_at slot dirty).room) (sym (ap (λ (l : List Cells). length (cells_at slot l).numbers) (sym is) ∙ long_at members lines slot numbers dirty seat_of)) (laid.roomy slot seat_of))

  pub written_at : (place at number held : ℕ) → at ≡ index_of members slot place → number ≡ held → place < length (cells_at slot items).numbers
      → columns_in members lines (set numbers at number) dirty ≡ set items slot (record { numbers = set (cells_at slot items).numbers place held; dirty = (cells_at slot items).dirty })
  written_at place at number held lies same less =
      (λ i. columns_in members lines (set numbers (lies i) (same i)) dirty)
      ∙ columns_written members lines slot place held numbers dirty laid seat_of (subst (λ (l : List Cells). place < length (cells_at slot l).numbers) (sym is) less)
      ∙ ap (λ (l : List Cells). set l slot (let v : Cells = record { numbers = set (cells_at slot l).numbers place held; dirty = (cells_at slot l).dirty } in v)) is

  -- the dirty places of the slot change
  pub marked_at : (f : List ℕ → List ℕ) (before now : DirtyOf) → before ≡ get_or dirty slot before → now.places ≡ f before.places
      → columns_in members lines numbers (set dirty slot now) ≡ set items slot (record { numbers = (cells_at slot items).numbers; dirty = f (cells_at slot items).dirty })
  marked_at f before now read same =
      columns_marked members lines slot numbers dirty now seat_of
      ∙ ap (λ (l : List Cells). set l slot (let v : Cells = record { numbers = (cells_at slot l).numbers; dirty = now.places } in v)) is
      ∙ ap (λ (ps : List ℕ). set items slot (let v : Cells = record { numbers = (cells_at slot items).numbers; dirty = ps } in v)) (same ∙ ap f (dirty_read before read))

  pub emptied_at : (others : List ℕ) (now : DirtyOf) → Empties members slot (lines * 16) numbers others → now.places ≡ []
      → columns_in members lines others (set dirty slot now) ≡ set items slot (record { numbers = replicate (length (cells_at slot items).numbers) no_number; dirty = [] })
  emptied_at others now empties none =
      columns_emptied members lines slot numbers others dirty now laid seat_of empties
      ∙ ap (λ (l : List Cells). set l slot (let v : Cells = record { numbers = replicate (length (cells_at slot l).numbers) no_number; dirty = now.places } in v)) is
      ∙ ap (λ (ps : List ℕ). set items slot (let v : Cells = record { numbers = replicate (length (cells_at slot items).numbers) no_number; dirty = ps } in v)) none

-- the value that contracts see, where its cells change so
pub seen : (f : List Cells → List Cells) (members : ℕ) (items new : List Cells) (v : ColumnsOf) → (let s : ColumnsOf = record { members = members; items = items } in s) ≡ v → new ≡ f items
    → (let s : ColumnsOf = record { members = members; items = new } in s) ≡ (let s : ColumnsOf = record { members = v.members; items = f v.items } in s)
seen f members items new v is same =
    subst (λ (u : ColumnsOf). (let s : ColumnsOf = record { members = members; items = new } in s) ≡ (let s : ColumnsOf = record { members = u.members; items = f u.items } in s)) is
    (ap (λ (l : List Cells). let s : ColumnsOf = record { members = members; items = l } in s) same)

-- ---- numbers of routes

not_less : (a b : ℕ) → b ≤ a → ltb a b ≡ false
not_less a b le = false_from_ne_true (ltb a b) (λ less. let below = ltb-true a b less in absurd (omega arith))

-- what is held for a value is another number exactly where the value is another one
pub same_held : (number held : ℕ) (value : Option ℕ) → held ≡ held_for value → number < 2 ^ 32 → IfSome value (λ n. n < 2 ^ 32 - 1) → eqb number held ≡ is_same (route_no_of number) value
same_held number held None is below small = ap (eqb number) is ∙ at (cases_lt number no_number) where
  at : (number < no_number) ⊎ (no_number ≤ number) → eqb number no_number ≡ is_same (route_no_of number) None
  at (inl less) = ne_eqb number no_number (λ same. absurd (omega arith)) ∙ ap (λ (o : Option ℕ). is_same o None) (sym (cond-true (ltb number no_number) (Some number) None (lt-ltb number no_number less)))
  at (inr past) =
      eq-eqb number no_number (omega arith)
      ∙ ap (λ (o : Option ℕ). is_same o None) (sym (cond-false (ltb number no_number) (Some number) None (not_less number no_number past)))
same_held number held (Some n) is below small = ap (eqb number) is ∙ at (cases_lt number no_number) where
  at : (number < no_number) ⊎ (no_number ≤ number) → eqb number n ≡ is_same (route_no_of number) (Some n)
  at (inl less) = ap (λ (o : Option ℕ). is_same o (Some n)) (sym (cond-true (ltb number no_number) (Some number) None (lt-ltb number no_number less)))
  at (inr past) =
      ne_eqb number n (λ same. absurd (omega arith))
      ∙ ap (λ (o : Option ℕ). is_same o (Some n)) (sym (cond-false (ltb number no_number) (Some number) None (not_less number no_number past)))

-- a cell has a number exactly where it holds none that stands for no route
pub has_held : (number : ℕ) → number < 2 ^ 32 → not (eqb number no_number) ≡ is_some (route_no_of number)
has_held number below = at (cases_lt number no_number) where
  at : (number < no_number) ⊎ (no_number ≤ number) → not (eqb number no_number) ≡ is_some (route_no_of number)
  at (inl less) = ap not (ne_eqb number no_number (λ same. absurd (omega arith))) ∙ ap is_some (sym (cond-true (ltb number no_number) (Some number) None (lt-ltb number no_number less)))
  at (inr past) = ap not (eq-eqb number no_number (omega arith)) ∙ ap is_some (sym (cond-false (ltb number no_number) (Some number) None (not_less number no_number past)))

-- ---- one turn over the cells of a slot that is emptied

pub empties-none : (members slot : ℕ) (numbers : List ℕ) → Empties members slot 0 numbers numbers
empties-none members slot numbers = record { len = refl; here = λ place less. absurd (omega arith); others = λ s place seat other. refl }

pub empties-more : (members slot count at : ℕ) (first before : List ℕ) → slot < members → Empties members slot count first before → at ≡ index_of members slot count → at < length before
    → Empties members slot (count + 1) first (set before at no_number)
empties-more members slot count at first before seat so_far lies within = record {
  len = length-set before at no_number ∙ so_far.len;
  here = λ place less. here place less (cases_eq place count);
  others = λ s place member other.
      get_or-set_other before at (index_of members s place) no_number no_number (λ same. other (index_apart members s slot place count member seat (same ∙ lies)).0) ∙ so_far.others s place member other;
} where
  here : (place : ℕ) → place < count + 1 → (place ≡ count) ⊎ (place ≢ count) → get_or (set before at no_number) (index_of members slot place) no_number ≡ no_number
  here place less (inl same) = ap (λ n. get_or (set before at no_number) n no_number) (ap (index_of members slot) same ∙ sym lies) ∙ get_or-set_same before at no_number no_number within
  here place less (inr other) =
      get_or-set_other before at (index_of members slot place) no_number no_number (λ same. other (index_apart members slot slot place count seat seat (same ∙ lies)).1)
      ∙ so_far.here place (omega arith)

-- ---- more room

-- what is read of numbers that were made longer by those of cells without a route
pub longer_same : (old new : List ℕ) (n : ℕ) → length old ≤ n → length new ≡ n → ((k d : ℕ) → k < n → k < length old → get_or new k d ≡ get_or old k d)
    → ((k d : ℕ) → length old ≤ k → k < n → get_or new k d ≡ no_number) → (k : ℕ) → get_or new k no_number ≡ get_or old k no_number
longer_same old new n more len low high k = at (cases_lt k (length old)) (cases_lt k n) where
  at : (k < length old) ⊎ (length old ≤ k) → (k < n) ⊎ (n ≤ k) → get_or new k no_number ≡ get_or old k no_number
  at (inl within) any = low k no_number (omega arith) within
  at (inr past) (inl less) = high k no_number past less ∙ sym (get_or_past old k no_number past)
  at (inr past) (inr end) = get_or_past new k no_number (omega arith) ∙ sym (get_or_past old k no_number past)

pub lines_le : (members lines more : ℕ) → lines ≤ more → members * lines * 16 ≤ members * more * 16
lines_le members lines more le = let rows : members * lines ≤ members * more = mul-le members lines members more (le_refl members) le in omega arith

-- where there are lines enough
pub enough_there : (members lines count : ℕ) (numbers : List ℕ) (dirty : List DirtyOf) → AreLaid members lines numbers dirty → count / 16 + 1 ≤ lines
    → (slot : ℕ) → slot < length (columns_in members lines numbers dirty) → count ≤ length (cells_at slot (columns_in members lines numbers dirty)).numbers
enough_there members lines count numbers dirty laid le slot less =
    subst (λ n. count ≤ n) (sym (long_at members lines slot numbers dirty (subst (λ n. slot < n) (length_columns members lines numbers dirty) less))) (omega arith)

pub all_there : (members lines count : ℕ) (numbers : List ℕ) (dirty : List DirtyOf) → AreLaid members lines numbers dirty → count / 16 + 1 ≤ lines → length (columns_in members lines numbers dirty) ≡ members
all_there members lines count numbers dirty laid le = length_columns members lines numbers dirty ∙ laid.full (omega arith)

pub few_there : (members lines : ℕ) (numbers : List ℕ) (dirty : List DirtyOf) → length dirty ≤ members → length (columns_in members lines numbers dirty) ≤ members
few_there members lines numbers dirty few = subst (λ n. n ≤ members) (sym (length_columns members lines numbers dirty)) few
