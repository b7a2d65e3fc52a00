-- What a record does with the pending prefixes of the shards, and the UPDATEs for the cells that change.
use Rattle.std.specs.Prelude.{◌≡◌, ℕ, ◌+◌, Bool, not, List, [], ◌∷◌, ◌++◌, length, take, map, filter, min, Option, Some, None, slice_get}
use Rattle.std.specs.List.{flat_map}
use Rattle.rcp_base.specs.IpPrefix.{IpPrefix}
use Rattle.rcp_base.specs.declared.kinds.Kind.{Kind}
use Rattle.rcp_base.specs.declared.kinds.Kind.TheVariants as kind
use Rattle.rcp_base.specs.Feed.{OutRecord}
use Rattle.rcp_base.specs.Maps.{is_among}
use Rattle.rcp_base.specs.Roster.{RosterOf}
use Rattle.rcp_model.specs.Cells.{Cell}
use Rattle.rcp_model.specs.Rising.{IsRising}
use Rattle.rcp_model.specs.Routes.{RouteFields}
use Rattle.rcp_model.specs.Sessions.{slot_in}
use Rattle.rcp_model.specs.ServerRibs.{RibEvent, Work, Ribs, same_values, same_route, ribs_after_all}
use Rattle.feed_meaning.specs.Platform.{Connections}
use Rattle.feed_meaning.specs.OutRecords.{MOST, SUMMARY, messages_to, counted}
use Rattle.rcp_model.specs.Packing.{packed}
use Rattle.feed_meaning.specs.Work.{shard_in, count_in}
use Rattle.platform_laws.specs.Parts.{roster_reader, shards_after_all}
use Rattle.platform_laws.specs.Platforms.{PlatformOf}
use Rattle.platform_laws.specs.Asked.{given_route, octets_of, rising_of, all_pending, connected_count, announced_count}

-- ---- the work

abbrev pub works : List IpPrefix → List (RibEvent RouteFields)
works prefixes = map (λ p. Work p) prefixes

-- a shard after so many of its pending prefixes were worked, the least first, or after all were
abbrev pub worked_least : RosterOf → ℕ → Ribs RouteFields → Ribs RouteFields
worked_least roster count ribs = ribs_after_all (roster_reader roster) (works (take count (rising_of ribs.pending))) ribs

abbrev pub worked_all : RosterOf → Ribs RouteFields → Ribs RouteFields
worked_all roster ribs = ribs_after_all (roster_reader roster) (works (rising_of ribs.pending)) ribs

-- ---- the cells that changed

-- whether a slot is given another route at a prefix than before
abbrev pub is_changed : RosterOf → List (Ribs RouteFields) → List (Ribs RouteFields) → ℕ → IpPrefix → Bool
is_changed roster before now slot p = not (same_values same_route (given_route roster before p slot) (given_route roster now p slot))

-- those at which it is
abbrev pub changed_prefixes : RosterOf → List IpPrefix → List (Ribs RouteFields) → List (Ribs RouteFields) → ℕ → List IpPrefix
changed_prefixes roster prefixes before now slot = filter (is_changed roster before now slot) prefixes

-- what a slot is given at these prefixes
abbrev pub cells_at : RosterOf → List (Ribs RouteFields) → ℕ → List IpPrefix → List Cell
cells_at roster now slot prefixes = map (λ p. (p, octets_of (given_route roster now p slot))) prefixes

-- prefixes by rising order, each where the slot is given another route than before, and no others
pub record AreChanged (roster : RosterOf) (before now : List (Ribs RouteFields)) (slot : ℕ) (prefixes : List IpPrefix) : Type 0 where
  pub rising : IsRising prefixes
  pub exact : (p : IpPrefix) → is_among prefixes p ≡ is_changed roster before now slot p

-- what a slot is sent, where there is one
abbrev pub updates_to : RosterOf → List IpPrefix → List (Ribs RouteFields) → List (Ribs RouteFields) → Option ℕ → List (List ℕ)
updates_to roster prefixes before now None = []
updates_to roster prefixes before now (Some slot) = packed (cells_at roster now slot (changed_prefixes roster prefixes before now slot))

-- the UPDATEs to each connection, by rising number
abbrev pub updates_to_all : RosterOf → List IpPrefix → List (Ribs RouteFields) → List (Ribs RouteFields) → Connections → List OutRecord
updates_to_all roster prefixes before now sessions =
    flat_map (λ entry. messages_to entry.0 (updates_to roster prefixes before now (slot_in entry.1.phase))) sessions

-- ---- the stage

-- the least pending prefixes of a shard, so many at most
abbrev pub least_of : Option (Ribs RouteFields) → ℕ → List IpPrefix
least_of None count = []
least_of (Some ribs) count = take count (rising_of ribs.pending)

abbrev pub slice_of : PlatformOf → List ℕ → List IpPrefix
slice_of seen body = least_of (slice_get seen.shards (shard_in body)) (count_in body)

-- the shards after these prefixes were worked, and the UPDATEs
abbrev pub shards_worked : List IpPrefix → PlatformOf → List (Ribs RouteFields)
shards_worked prefixes seen = shards_after_all seen.roster (works prefixes) seen.shards

abbrev pub updates_of_work : List IpPrefix → PlatformOf → List OutRecord
updates_of_work prefixes seen = updates_to_all seen.roster prefixes seen.shards (shards_worked prefixes seen) seen.sessions

-- These prefixes are worked, and the UPDATEs counted.
abbrev pub seen_worked : List IpPrefix → PlatformOf → PlatformOf
seen_worked prefixes seen = record seen {
  shards = shards_worked prefixes seen;
  updates = min (seen.updates + length (updates_of_work prefixes seen)) MOST;
}

-- connected routers, prefixes with an announcement, UPDATEs put out so far
abbrev pub summary_of : PlatformOf → OutRecord
summary_of seen = record {
  kind = SUMMARY;
  connection = 0;
  body = counted (connected_count seen.shards) ++ counted (announced_count seen.shards) ++ counted seen.updates;
}

-- A slice works the least pending prefixes of a shard, a drain all pending prefixes.
abbrev pub seen_after_work : PlatformOf → List ℕ → Kind → PlatformOf
seen_after_work seen body kind.Slice = seen_worked (slice_of seen body) seen
seen_after_work seen body kind.Drain = seen_worked (all_pending seen.shards) seen
seen_after_work seen body kind = seen

abbrev pub output_of_work : PlatformOf → List ℕ → Kind → List OutRecord
output_of_work seen body kind.Slice = updates_of_work (slice_of seen body) seen
output_of_work seen body kind.Drain = updates_of_work (all_pending seen.shards) seen ++ summary_of (seen_worked (all_pending seen.shards) seen) ∷ []
output_of_work seen body kind = []
