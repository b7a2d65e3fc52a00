-- The cells that change by work are dirty until they are sent.
use Rattle.std.specs.Prelude.{◌≡◌, ℕ, ◌+◌, ◌<◌, ◌==◌, Bool, false, true, not, ◌&&◌, List, [], ◌∷◌, map, take, length, Option, Some, None, slice_get, slice_index_or, slice_set, All, Contains, ◌⊎◌}
use Rattle.std.specs.List.{AllByRecursion}
use Rattle.std.specs.FinSet as set_of
use Rattle.std.specs.declared.cmp.Ordering.TheVariants.{Less}
use Rattle.rcp_base.specs.IpPrefix.{IpPrefix, prefix_cmp}
use Rattle.rcp_base.specs.Maps.{same_prefix, is_among}
use Rattle.rcp_base.specs.Roster.{RosterOf}
use Rattle.rcp_model.specs.Assigned.{IsLeast}
use Rattle.rcp_model.specs.Cells.{Cell, IsSendable}
use Rattle.rcp_model.specs.Rising.{IsRising}
use Rattle.rcp_model.specs.Routes.{RouteFields, OfferFields}
use Rattle.update_pack.specs.Shown.{cell_of}
use Rattle.rcp_model.specs.ServerRibs.{route_reader, Ribs, ribs_after_all}
use Rattle.platform_laws.specs.Parts.{shard_number}
use Rattle.platform_laws.specs.Asked.{rising_of}
use Rattle.platform_laws.specs.Work.{works, cells_at}
use Rattle.platform_laws.specs.Dirty.{dirty_over}
use Rattle.rcs_shard.specs.Shards.{ShardOf, is_dirty}

-- ---- one shard

-- the shard after work on so many of its pending prefixes, the least first
abbrev pub sliced : ℕ → ShardOf → ShardOf
sliced count shard = record shard {
  ribs = ribs_after_all (route_reader shard.members) (works (take count (rising_of shard.ribs.pending))) shard.ribs;
  dirty = dirty_over (route_reader shard.members) (take count (rising_of shard.ribs.pending)) shard.ribs shard.dirty;
}

-- the shard after work on all its pending prefixes
abbrev pub sliced_whole : ShardOf → ShardOf
sliced_whole shard = sliced (set_of.len shard.ribs.pending) shard

-- the shards after such work on the one at a place, where one stands there
abbrev pub sliced_found : ℕ → ℕ → Option ShardOf → List ShardOf → List ShardOf
sliced_found place count None shards = shards
sliced_found place count (Some shard) shards = slice_set shards place (sliced count shard)

abbrev pub sliced_at : ℕ → ℕ → List ShardOf → List ShardOf
sliced_at place count shards = sliced_found place count (slice_get shards place) shards

-- the shard with all cells clean
abbrev pub cleaned : ShardOf → ShardOf
cleaned shard = record shard { dirty = set_of.empty }

-- ---- all shards

abbrev pub ribs_in : List ShardOf → List (Ribs RouteFields)
ribs_in shards = map (λ shard. shard.ribs) shards

-- whether the cell of a slot at a prefix is dirty
abbrev pub dirty_in : Option ShardOf → ℕ → IpPrefix → Bool
dirty_in None slot p = false
dirty_in (Some shard) slot p = is_dirty shard slot p

abbrev pub has_dirty : RosterOf → List ShardOf → ℕ → IpPrefix → Bool
has_dirty roster shards slot p = dirty_in (slice_get shards (shard_number roster p)) slot p

-- a shard's dirty cells are of members and of its own prefixes
pub record IsReady (roster : RosterOf) (number : ℕ) (shard : ShardOf) : Type 0 where
  pub members : shard.members ≡ roster.members
  pub seated : (slot : ℕ) (p : IpPrefix) → is_dirty shard slot p ≡ true → slot < length roster.members
  pub own : (slot : ℕ) (p : IpPrefix) → is_dirty shard slot p ≡ true → shard_number roster p ≡ number

-- these are the shards of a roster, each of which is so
pub record AreReady (roster : RosterOf) (shards : List ShardOf) : Type 0 where
  pub count : length shards ≡ roster.shards
  pub each : (n : ℕ) (shard : ShardOf) → slice_get shards n ≡ Some shard → IsReady roster n shard

-- the prefixes of a slot's dirty cells, by rising order
pub record AreDirty (roster : RosterOf) (shards : List ShardOf) (slot : ℕ) (prefixes : List IpPrefix) : Type 0 where
  pub rising : IsRising prefixes
  pub exact : (p : IpPrefix) → is_among prefixes p ≡ has_dirty roster shards slot p

-- what a slot has at prefixes
abbrev pub cells_of : RosterOf → List ShardOf → ℕ → List IpPrefix → List Cell
cells_of roster shards slot prefixes = cells_at roster (ribs_in shards) slot prefixes

-- the shard at a place has a dirty cell of the slot at the prefix
abbrev pub IsDirtyAt : List ShardOf → ℕ → ℕ → IpPrefix → Type 0
IsDirtyAt shards slot place p = dirty_in (slice_get shards place) slot p ≡ true

-- These places are of shards, and of the first so many shards each in which some prefix is pending stands at one of them.
pub record ArePending (shards : List ShardOf) (places : List ℕ) (count : ℕ) : Type 0 where
  pub within : All (λ n. n < length shards) places
  pub listed : (n : ℕ) (s : ShardOf) → n < count → slice_get shards n ≡ Some s → Contains places n ⊎ (set_of.len s.ribs.pending ≡ 0)

-- These places are of shards, and each shard that has a dirty cell stands at one of them.
pub record AreBusy (roster : RosterOf) (shards : List ShardOf) (busy : List ℕ) : Type 0 where
  pub within : All (λ n. n < length shards) busy
  pub listed : (slot : ℕ) (p : IpPrefix) → has_dirty roster shards slot p ≡ true → Contains busy (shard_number roster p)
