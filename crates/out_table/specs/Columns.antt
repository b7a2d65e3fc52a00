-- How the cells of all slots lie in one list: sixteen places of a slot side by side, then the same places of the next slot.
use Rattle.std.specs.Prelude.{◌≡◌, ℕ, ◌+◌, ◌*◌, ◌/◌, ◌%◌, ◌<◌, ◌≤◌, List, [], length, map, slice_index_or, slice_set, Bool}
use Rattle.std.specs.List.{range_with_len}
use Rattle.rcp_base.specs.IpPrefix.{IpPrefix}
use Rattle.out_table.specs.Cells.{Cells, no_number}
use Rattle.out_table.specs.Places.{cells_at, Sets}

-- the dirty places of a slot by rising prefix, and for how many there is room
pub record DirtyOf : Type 0 where
  pub room : ℕ
  pub places : List ℕ

abbrev pub no_dirty : DirtyOf
no_dirty = record { room = 0; places = [] }

abbrev pub dirty_at : ℕ → List DirtyOf → DirtyOf
dirty_at slot dirty = slice_index_or dirty slot no_dirty

-- where the cell of a slot at a place lies
abbrev pub index_of : ℕ → ℕ → ℕ → ℕ
index_of members slot place = (place / 16 * members + slot) * 16 + place % 16

-- the numbers of a slot by place, where there are so many lines of sixteen
abbrev pub column_of : ℕ → ℕ → ℕ → List ℕ → List ℕ
column_of members lines slot numbers = map (λ place. slice_index_or numbers (index_of members slot place) no_number) (range_with_len 0 (lines * 16))

abbrev pub cells_of : ℕ → ℕ → List ℕ → List DirtyOf → ℕ → Cells
cells_of members lines numbers dirty slot = record { numbers = column_of members lines slot numbers; dirty = (dirty_at slot dirty).places }

-- the cells of each slot
unfoldable pub columns_in : ℕ → ℕ → List ℕ → List DirtyOf → List Cells
columns_in members lines numbers dirty = map (cells_of members lines numbers dirty) (range_with_len 0 (length dirty))

-- for how many slots the cells are, and those of each slot that has cells
pub record ColumnsOf : Type 0 where
  pub members : ℕ
  pub items : List Cells

-- what the parts keep: a cell for each slot and place, and room for each place among the dirty ones
pub record AreLaid (members lines : ℕ) (numbers : List ℕ) (dirty : List DirtyOf) : Type 0 where
  pub few : length dirty ≤ members
  pub whole : length numbers ≡ members * lines * 16
  pub full : 0 < lines → length dirty ≡ members
  pub roomy : (slot : ℕ) → slot < length dirty → lines * 16 ≤ (dirty_at slot dirty).room

-- There may be more slots, and more room for dirty places.
pub record Roomier (old new : List DirtyOf) : Type 0 where
  pub more : length old ≤ length new
  pub same : (slot : ℕ) → (dirty_at slot new).places ≡ (dirty_at slot old).places
  pub wider : (slot : ℕ) → (dirty_at slot old).room ≤ (dirty_at slot new).room

-- so many first slots have so much room
pub record IsWidened (count slots : ℕ) (old new : List DirtyOf) : Type 0 where
  pub roomier : Roomier old new
  pub len : length new ≡ length old
  pub enough : (slot : ℕ) → slot < slots → count ≤ (dirty_at slot new).room

-- the numbers of a slot at so many first places are those of cells without a route, and those of other slots are as before
pub record Empties (members slot count : ℕ) (old new : List ℕ) : Type 0 where
  pub len : length new ≡ length old
  pub here : (place : ℕ) → place < count → slice_index_or new (index_of members slot place) no_number ≡ no_number
  pub others : (s place : ℕ) → s < members → (s ≡ slot → ⊥) → slice_index_or new (index_of members s place) no_number ≡ slice_index_or old (index_of members s place) no_number

-- the cells of one slot are those now, after one of them is written, and marked where it changes
pub record SetsAt (slot place number : ℕ) (prefixes : List IpPrefix) (changes : Bool) (old new : List Cells) : Type 0 where
  pub cells : Cells
  pub is : new ≡ slice_set old slot cells
  pub sets : Sets place number prefixes changes (cells_at slot old) cells
