-- How a table is kept: a place for each opened prefix, and for each slot its cells by place.
use Rattle.std.specs.Prelude.{◌≡◌, ⊤, ℕ, ◌+◌, ◌<◌, ◌≤◌, Bool, true, false, List, [], ◌∷◌, ◌++◌, length, map, slice_index_or, slice_set, ◌&&◌, ◌||◌, Option, Some, None, nat_lt, if◌then◌else◌}
use Rattle.std.specs.List.{AllByRecursion, list_any}
use Rattle.std.specs.Map.{keys_of, lookup}
use Rattle.std.specs.BTreeMap.Range.{entries_between}
use Rattle.std.specs.declared.ops.Bound.TheVariants.{Excluded, Unbounded}
use Rattle.std.specs.List.Sorted.{IsStrictlySortedBy}
use Rattle.std.specs.FinMap as map_of
use Rattle.std.specs.FinSet as set_of
use Rattle.std.specs.Option.{option_and_then}
use Rattle.std.specs.Ordering.{is_lt, eq_by_cmp}
use Rattle.std.specs.declared.cmp.Ordering.{Ordering}
use Rattle.std.specs.declared.cmp.Ordering.TheVariants.{Less, Greater}
use Rattle.rcp_base.specs.IpPrefix.{IpPrefix, prefix_cmp}
use Rattle.rcp_model.specs.Ribs.{RibKey}
use Rattle.out_table.specs.Cells.{Cells, no_number, no_cells, number_at, Keeps}
use Rattle.out_table.specs.Tables.{Table}

-- ---- places of prefixes

-- an opened prefix and its place
abbrev pub Place : Type 0
Place = IpPrefix × ℕ

abbrev pub place_of : IpPrefix → List Place → Option ℕ
place_of p places = lookup (eq_by_cmp prefix_cmp p) places

abbrev pub no_prefix : IpPrefix
no_prefix = record { addr = 0; len = 0 }

abbrev pub prefix_in : List IpPrefix → ℕ → IpPrefix
prefix_in prefixes place = slice_index_or prefixes place no_prefix

-- how the prefix at a place compares to another: as the greater one where there is none
abbrev pub order_in : List IpPrefix → IpPrefix → ℕ → Ordering
order_in prefixes p place = if nat_lt place (length prefixes) then prefix_cmp (prefix_in prefixes place) p else Greater

-- the places by prefix, and the prefixes by place
pub record AreInverse (places : List Place) (prefixes : List IpPrefix) : Type 0 where
  pub sorted : IsStrictlySortedBy prefix_cmp (keys_of places)
  pub placed : (p : IpPrefix) (place : ℕ) → place_of p places ≡ Some place → (place < length prefixes) × (prefix_in prefixes place ≡ p)
  pub found : (place : ℕ) → place < length prefixes → place_of (prefix_in prefixes place) places ≡ Some place

-- ---- the cells of one slot

abbrev pub cells_at : ℕ → List Cells → Cells
cells_at slot columns = slice_index_or columns slot no_cells

-- the number that a slot has at a prefix
abbrev pub number_of : IpPrefix → List Place → List ℕ → Option ℕ
number_of p places numbers = option_and_then (λ place. number_at place numbers) (place_of p places)

-- whether a prefix has its place in the list
abbrev pub is_listed : IpPrefix → List IpPrefix → List ℕ → Bool
is_listed p prefixes dirty = list_any (λ place. eq_by_cmp prefix_cmp p (prefix_in prefixes place)) dirty

-- the prefixes of the places rise
abbrev pub IsRising : List IpPrefix → List ℕ → Type 0
IsRising prefixes [] = ⊤
IsRising prefixes (place ∷ later) =
    AllByRecursion (λ other. prefix_cmp (prefix_in prefixes place) (prefix_in prefixes other) ≡ Less) later × IsRising prefixes later

-- the prefix belongs at this place of the list: those before it are below it, the others above
pub record IsGap (p : IpPrefix) (prefixes : List IpPrefix) (dirty : List ℕ) (gap : ℕ) : Type 0 where
  pub within : gap ≤ length dirty
  pub before : (k : ℕ) → k < gap → prefix_cmp (prefix_in prefixes (slice_index_or dirty k 0)) p ≡ Less
  pub after : (k : ℕ) → gap ≤ k → k < length dirty → prefix_cmp (prefix_in prefixes (slice_index_or dirty k 0)) p ≡ Greater

-- so many of the first places of the list are of prefixes up to this one, and the others of prefixes after it
pub record IsPassed (p : IpPrefix) (prefixes : List IpPrefix) (dirty : List ℕ) (count : ℕ) : Type 0 where
  pub before : (k : ℕ) → k < count → k < length dirty → is_lt (prefix_cmp p (prefix_in prefixes (slice_index_or dirty k 0))) ≡ false
  pub after : (k : ℕ) → count ≤ k → k < length dirty → is_lt (prefix_cmp p (prefix_in prefixes (slice_index_or dirty k 0))) ≡ true

-- what the cells of each slot keep: a cell for each place there is room for, and no route where no prefix has the place
pub record AreKept (room : ℕ) (prefixes : List IpPrefix) (cells : Cells) : Type 0 where
  pub long : room ≤ length cells.numbers
  pub unused : (place : ℕ) → length prefixes ≤ place → slice_index_or cells.numbers place no_number ≡ no_number
  pub below : AllByRecursion (λ place. place < length prefixes) cells.dirty
  pub rising : IsRising prefixes cells.dirty

-- ---- the table

-- what a table keeps
pub record IsKept (members room : ℕ) (places : List Place) (prefixes : List IpPrefix) (columns : List Cells) : Type 0 where
  pub inverse : AreInverse places prefixes
  pub rows : length prefixes ≤ room
  pub few : length columns ≤ members
  pub full : 0 < room → length columns ≡ members
  pub each : (slot : ℕ) → slot < length columns → AreKept room prefixes (cells_at slot columns)

abbrev pub with_entry : RibKey → Option ℕ → List (RibKey × ℕ) → List (RibKey × ℕ)
with_entry key None entries = entries
with_entry key (Some number) entries = (key, number) ∷ entries

abbrev pub entries_in : ℕ → List Place → List ℕ → List (RibKey × ℕ)
entries_in slot [] numbers = []
entries_in slot (e ∷ places) numbers = with_entry (e.0, slot) (number_at e.1 numbers) (entries_in slot places numbers)

-- the entries of the slots from one on
abbrev pub entries_from : ℕ → List Place → List Cells → List (RibKey × ℕ)
entries_from slot places [] = []
entries_from slot places (cells ∷ columns) = entries_in slot places cells.numbers ++ entries_from (slot + 1) places columns

abbrev pub dirty_from : ℕ → List IpPrefix → List Cells → List RibKey
dirty_from slot prefixes [] = []
dirty_from slot prefixes (cells ∷ columns) = map (λ place. (prefix_in prefixes place, slot)) cells.dirty ++ dirty_from (slot + 1) prefixes columns

-- the table that is meant
unfoldable pub table_of : ℕ → List Place → List IpPrefix → List Cells → Table
table_of members places prefixes columns = record {
  members = members;
  opened = set_of.from_list (keys_of places);
  cells = map_of.from_entries (entries_from 0 places columns);
  dirty = set_of.from_list (dirty_from 0 prefixes columns);
}

-- The cells of each slot are kept. There may be more slots, without cells before.
pub record KeepsAll (old new : List Cells) : Type 0 where
  pub more : length old ≤ length new
  pub each : (slot : ℕ) → Keeps (cells_at slot old) (cells_at slot new)

-- The cells of a slot before and after one is written, and marked where it changes.
pub record Sets (place number : ℕ) (prefixes : List IpPrefix) (changes : Bool) (old new : Cells) : Type 0 where
  pub numbers : new.numbers ≡ slice_set old.numbers place number
  pub listed : (q : IpPrefix) → is_listed q prefixes new.dirty ≡
      (changes && eq_by_cmp prefix_cmp q (prefix_in prefixes place) || is_listed q prefixes old.dirty)
  pub below : AllByRecursion (λ place. place < length prefixes) new.dirty
  pub rising : IsRising prefixes new.dirty

-- so many first slots have so many cells
pub record IsGrown (count slots : ℕ) (old new : List Cells) : Type 0 where
  pub kept : KeepsAll old new
  pub len : length new ≡ length old
  pub enough : (slot : ℕ) → slot < slots → count ≤ length (cells_at slot new).numbers

-- There are no more slots than members, and where there is room, a slot for each member and so many cells in each.
pub record IsRoom (members room : ℕ) (columns : List Cells) : Type 0 where
  pub few : length columns ≤ members
  pub full : 0 < room → length columns ≡ members
  pub long : (slot : ℕ) → slot < length columns → room ≤ length (cells_at slot columns).numbers

-- what the places are after one is added
pub record Adds (p : IpPrefix) (place : ℕ) (old new : List Place) : Type 0 where
  pub sorted : IsStrictlySortedBy prefix_cmp (keys_of new)
  pub at : (q : IpPrefix) → place_of q new ≡ (if eq_by_cmp prefix_cmp p q then Some place else place_of q old)

-- the places of the prefixes after one
abbrev pub places_after : IpPrefix → List Place → List Place
places_after p places = entries_between prefix_cmp (Excluded p) Unbounded places
