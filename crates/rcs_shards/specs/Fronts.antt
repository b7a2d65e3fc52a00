-- Dirty cells as they are read: at the next one of each shard.
use Rattle.std.specs.Prelude.{◌≡◌, ℕ, true, List, [], ◌∷◌, map, length, Option, Some, None, slice_get, slice_index_or, option_map, Contains, IfSome}
use Rattle.std.specs.List.{AllByRecursion}
use denote.Ref.{Bor}
use Rattle.rcp_base.specs.IpPrefix.{IpPrefix}
use Rattle.rcp_base.specs.Roster.{RosterOf}
use Rattle.rcp_model.specs.Assigned.{IsAfter, IsLeast}
use Rattle.rcp_model.specs.Cells.{Cell, IsSendable}
use Rattle.rcp_model.specs.Routes.{RouteFields, is_usable}
use Rattle.rcs_shard.specs.Shards.{ShardOf, given_at}
use Rattle.rcs_shards.specs.Dirty.{has_dirty, IsDirtyAt, AreDirty, cells_of}

abbrev pub route_of : Option (Bor RouteFields) → Option RouteFields
route_of route = option_map (λ r. r.now) route

-- what the shard gives a slot at a prefix
abbrev pub given_there : Option ShardOf → ℕ → IpPrefix → Option RouteFields
given_there None slot p = None
given_there (Some shard) slot p = given_at shard slot p

-- a cell of the slot at the prefix, which is after the given one, is dirty
abbrev pub IsLeft : RosterOf → List ShardOf → ℕ → Option IpPrefix → IpPrefix → Type 0
IsLeft roster shards slot after p = IsAfter after p × (has_dirty roster shards slot p ≡ true)

-- the shard at a place has a dirty cell of the slot at the prefix, which is after the given one
abbrev pub IsLeftAt : List ShardOf → ℕ → Option IpPrefix → ℕ → IpPrefix → Type 0
IsLeftAt shards slot after place p = IsAfter after p × IsDirtyAt shards slot place p

-- the route is the one that the shard at a place gives the slot at the prefix, and can be offered
pub record IsGivenAt (shards : List ShardOf) (slot place : ℕ) (p : IpPrefix) (route : Option (Bor RouteFields)) : Type 0 where
  pub given : route_of route ≡ given_there (slice_get shards place) slot p
  pub usable : IfSome route (λ r. is_usable r.now ≡ true)

-- the least dirty cell of the slot after the given prefix in the shard at a place: its prefix, and its route
pub record IsFront (shards : List ShardOf) (slot : ℕ) (after : Option IpPrefix) (place : ℕ) (prefix : Option IpPrefix) (route : Option (Bor RouteFields)) : Type 0 where
  pub least : IsLeast (IsLeftAt shards slot after place) prefix
  pub given : IfSome prefix (λ p. IsGivenAt shards slot place p route)

-- at each of these places stands such a prefix of the shard of that place
abbrev pub AreLeast : List ShardOf → List ℕ → ℕ → Option IpPrefix → List (Option IpPrefix) → Type 0
AreLeast shards busy slot after prefixes = (n : ℕ) → Contains busy n → IsLeast (IsLeftAt shards slot after n) (slice_index_or prefixes n None)

-- at each of these places stands such a cell of the shard of that place
pub record AreFronts (shards : List ShardOf) (busy : List ℕ) (slot : ℕ) (after : Option IpPrefix) (prefixes : List (Option IpPrefix)) (routes : List (Option (Bor RouteFields))) : Type 0 where
  pub long : length prefixes ≡ length shards
  pub routes_long : length routes ≡ length shards
  pub each : (n : ℕ) → Contains busy n → IsFront shards slot after n (slice_index_or prefixes n None) (slice_index_or routes n None)

-- the cell at a prefix of the slot is this one, and can be sent
pub record IsCell (roster : RosterOf) (shards : List ShardOf) (slot : ℕ) (cell : Cell) : Type 0 where
  pub value : cells_of roster shards slot (cell.0 ∷ []) ≡ cell ∷ []
  pub sendable : IsSendable cell

-- the least dirty cell of the slot after the given prefix over all shards, and the prefix up to which all are read then
pub record IsNextCell (roster : RosterOf) (shards : List ShardOf) (slot : ℕ) (after now : Option IpPrefix) (cell : Option Cell) : Type 0 where
  pub least : IsLeast (IsLeft roster shards slot after) (option_map (λ c. c.0) cell)
  pub is_cell : IfSome cell (IsCell roster shards slot)
  pub reached : IfSome cell (λ c. now ≡ Some c.0)

-- the dirty cells of a slot, by rising prefix
pub record AreOffered (roster : RosterOf) (shards : List ShardOf) (slot : ℕ) (cells : List Cell) : Type 0 where
  pub dirty : AreDirty roster shards slot (map (λ c. c.0) cells)
  pub values : cells ≡ cells_of roster shards slot (map (λ c. c.0) cells)
  pub sendable : AllByRecursion IsSendable cells
