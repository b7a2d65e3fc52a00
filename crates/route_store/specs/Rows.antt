-- The announcements as they are kept: those of each prefix in a row by rising slot, and the prefixes of each slot.
use Rattle.std.specs.Prelude.{◌≡◌, ◌≢◌, ℕ, ◌<◌, ◌≤◌, Bool, false, ◌==◌, List, [], ◌∷◌, ◌++◌, map, length, Option, Some, None, is_some, slice_get, slice_index_or, if◌then◌else◌, IfSome}
use Rattle.std.specs.BTreeMap as tree
use Rattle.std.specs.BTreeMap.{BTreeMap, IsOrdered}
use Rattle.std.specs.BTreeSet as tree_set
use Rattle.std.specs.BTreeSet.{BTreeSet}
use Rattle.std.specs.FinMap as map_of
use Rattle.std.specs.Ordering.{eq_by_cmp}
use Rattle.rcp_base.specs.IpPrefix.{IpPrefix, prefix_cmp}
use Rattle.rcp_model.specs.Ribs.{RibKey, RouteNumbers, rib_cmp}
use Rattle.route_store.specs.Announcers.{Announcement}

-- ---- the row of one prefix

abbrev pub Row : Type 0
Row = List Announcement

-- the number that a slot has in a row
abbrev pub number_in : Row → ℕ → Option ℕ
number_in [] slot = None
number_in (a ∷ row) slot = if a.0 == slot then Some a.1 else number_in row slot

abbrev pub slot_at : Row → ℕ → ℕ
slot_at row i = let a = slice_index_or row i (0, 0) in a.0

-- each slot is below the next
abbrev pub IsRising : Row → Type 0
IsRising row = (i j : ℕ) → i < j → j < length row → slot_at row i < slot_at row j

-- the announcement at place i is the slot's
pub record IsAt (row : Row) (slot i : ℕ) : Type 0 where
  pub in_range : i < length row
  pub has_slot : slot_at row i ≡ slot

-- the slot has no announcement, and its place would be i
pub record IsGapFor (row : Row) (slot i : ℕ) : Type 0 where
  pub in_range : i ≤ length row
  pub smaller_before : (j : ℕ) → j < i → slot_at row j < slot
  pub greater_after : (j : ℕ) → i ≤ j → j < length row → slot < slot_at row j

-- the row has this at the slot afterwards, and at the others what it had
abbrev pub PutsIn : Row → Row → ℕ → Option ℕ → Type 0
PutsIn old new slot value = (q : ℕ) → number_in new q ≡ (if slot == q then value else number_in old q)

-- ---- the rows of all prefixes

abbrev pub Rows : Type 0
Rows = BTreeMap IpPrefix Row

abbrev pub number_of : Option Row → ℕ → Option ℕ
number_of None slot = None
number_of (Some row) slot = number_in row slot

abbrev pub number_at : Rows → RibKey → Option ℕ
number_at rows key = number_of (tree.get prefix_cmp rows key.0) key.1

-- the rows have this at the key afterwards, and at the others what they had
abbrev pub Puts : Rows → Rows → RibKey → Option ℕ → Type 0
Puts old new key value = (q : RibKey) → number_at new q ≡ (if eq_by_cmp rib_cmp q key then value else number_at old q)

abbrev pub SameNumbers : Rows → Rows → Type 0
SameNumbers old new = (q : RibKey) → number_at new q ≡ number_at old q

-- the entries of all rows
abbrev pub entries_in : List (IpPrefix × Row) → List (RibKey × ℕ)
entries_in [] = []
entries_in (row ∷ rows) = map (λ a. ((row.0, a.0), a.1)) row.1 ++ entries_in rows

abbrev pub numbers_in : Rows → RouteNumbers
numbers_in rows = map_of.from_entries (entries_in rows.entries)

-- a prefix has a row only while a slot announces it
abbrev pub IsFilled : Rows → Type 0
IsFilled rows = (p : IpPrefix) → IfSome (tree.get prefix_cmp rows p) (λ row. row ≢ [])

-- ---- the prefixes of each slot

abbrev pub Seats : Type 0
Seats = List (BTreeSet IpPrefix)

abbrev pub is_in : IpPrefix → Option (BTreeSet IpPrefix) → Bool
is_in p None = false
is_in p (Some prefixes) = tree_set.contains prefix_cmp prefixes p

abbrev pub has_seat : Seats → RibKey → Bool
has_seat seats key = is_in key.0 (slice_get seats key.1)

-- the key is there afterwards or not, and the others are as before
abbrev pub SeatsThen : Seats → Seats → RibKey → Bool → Type 0
SeatsThen old new key there = (q : RibKey) → has_seat new q ≡ (if eq_by_cmp rib_cmp q key then there else has_seat old q)

abbrev pub SameSeats : Seats → Seats → Type 0
SameSeats old new = (q : RibKey) → has_seat new q ≡ has_seat old q

-- What a store keeps: each slot's prefixes are those that it announces.
pub record IsStore (rows : Rows) (seats : Seats) : Type 0 where
  pub ordered : IsOrdered prefix_cmp rows
  pub filled : IsFilled rows
  pub seated : (key : RibKey) → has_seat seats key ≡ is_some (number_at rows key)
