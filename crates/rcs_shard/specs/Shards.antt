-- One shard of the route control server: a server of routes, and which cells changed since they were last taken.
use Rattle.std.specs.Prelude.{◌≡◌, ℕ, Bool, true, not, ◌==◌, List, map, filter, Option, Some, None, IsSome, refl}
use Rattle.std.specs.Coded.{Coded, code_by, coded×, coded_ℕ, coded_list}
use Rattle.std.specs.FinSet as set_of
use Rattle.rcp_base.specs.IpPrefix.{IpPrefix}
use Rattle.rcp_base.specs.declared.names.Member.{Member}
use Rattle.rcp_base.specs.declared.names.Edge.{Edge}
use Rattle.rcp_model.specs.Assigned.{IsLeast, IsAfter}
use Rattle.rcp_model.specs.Routes.{RouteFields}
use Rattle.rcp_model.specs.Ribs.{RibKey, rib_cmp, prefix_code}
use Rattle.rcp_model.specs.ServerRibs.{same_route, same_values, route_reader, RibEvent, Up, Down, Change, Links, Work, Rib, Ribs, at_prefix, is_up, has_pending, empty_ribs, ribs_after, ribs_code}
use Rattle.attr_store.specs.Kept.{fields_code}

-- a set of cells, each by its prefix and the slot of its router
abbrev pub CellSet : Type 0
CellSet = set_of.FinSet rib_cmp

-- The number of the shard among so many, the routers by slot, the server, and the dirty cells: those whose value changed since it
-- was last taken.
pub record ShardOf : Type 0 where
  pub number : ℕ
  pub shards : ℕ
  pub members : List Member
  pub ribs : Ribs RouteFields
  pub dirty : CellSet

-- no slot is connected, nothing is announced, and no cell is dirty
abbrev pub new_shard : ℕ → ℕ → List Member → List Edge → ShardOf
new_shard number shards members edges = record {
  number = number;
  shards = shards;
  members = members;
  ribs = empty_ribs edges;
  dirty = set_of.empty;
}

-- ---- what is asked

abbrev pub is_connected : ShardOf → ℕ → Bool
is_connected shard slot = is_up shard.ribs slot

abbrev pub is_pending : ShardOf → IpPrefix → Bool
is_pending shard p = has_pending shard.ribs p

-- the route that a slot announces at a prefix, and the one that it is given there
abbrev pub announced_at : ShardOf → ℕ → IpPrefix → Option RouteFields
announced_at shard slot p = at_prefix shard.ribs.announced p slot

abbrev pub given_at : ShardOf → ℕ → IpPrefix → Option RouteFields
given_at shard slot p = at_prefix shard.ribs.given p slot

abbrev pub is_dirty : ShardOf → ℕ → IpPrefix → Bool
is_dirty shard slot p = set_of.contains shard.dirty (p, slot)

-- the least pending prefix, and the least one at which a cell of the slot is dirty: none where there is none
abbrev pub IsLeastPending : ShardOf → Option IpPrefix → Type 0
IsLeastPending shard least = IsLeast (λ p. is_pending shard p ≡ true) least

abbrev pub IsLeastDirty : ShardOf → ℕ → Option IpPrefix → Type 0
IsLeastDirty shard slot least = IsLeast (λ p. is_dirty shard slot p ≡ true) least

-- the least prefix after the given one at which a cell of the slot is dirty
abbrev pub IsNextDirty : ShardOf → ℕ → Option IpPrefix → Option IpPrefix → Type 0
IsNextDirty shard slot after next = IsLeast (λ p. IsAfter after p × (is_dirty shard slot p ≡ true)) next

-- the least prefix after the given one that some slot announces, and the least one at which the slot is given a route
abbrev pub IsNextAnnounced : ShardOf → Option IpPrefix → Option IpPrefix → Type 0
IsNextAnnounced shard after next = IsLeast (λ p. IsAfter after p × ((slot : ℕ) × IsSome (announced_at shard slot p))) next

abbrev pub IsNextGiven : ShardOf → ℕ → Option IpPrefix → Option IpPrefix → Type 0
IsNextGiven shard slot after next = IsLeast (λ p. IsAfter after p × IsSome (given_at shard slot p)) next

-- ---- events

-- the cells of these slots at a prefix whose values differ in two bases
abbrev pub differing : IpPrefix → List ℕ → Rib RouteFields → Rib RouteFields → List RibKey
differing p slots before now =
    map (λ slot. (p, slot)) (filter (λ slot. not (same_values same_route (at_prefix before p slot) (at_prefix now p slot))) slots)

-- the cells without those of a slot
abbrev pub without_cells_of : ℕ → CellSet → CellSet
without_cells_of slot dirty = set_of.retain dirty (λ key. not (key.1 == slot))

-- Which cells are dirty after an event: Up and Down empty and clean those of their slot, and Work makes dirty those that it changes.
abbrev pub dirty_after : RibEvent RouteFields → Ribs RouteFields → Ribs RouteFields → CellSet → CellSet
dirty_after (Up slot) before now dirty = without_cells_of slot dirty
dirty_after (Down slot) before now dirty = without_cells_of slot dirty
dirty_after (Change slot p route) before now dirty = dirty
dirty_after (Links edges) before now dirty = dirty
dirty_after (Work p) before now dirty = set_of.union dirty (set_of.from_list (differing p (set_of.items before.connected) before.given now.given))

-- what an event does to a shard: to its server what the definitions say
abbrev pub acted : RibEvent RouteFields → ShardOf → ShardOf
acted event shard =
    let now = ribs_after (route_reader shard.members) event shard.ribs in
    record shard { ribs = now; dirty = dirty_after event shard.ribs now shard.dirty }

-- the cell of a slot at a prefix is clean, where a prefix is given
abbrev pub taken : ℕ → Option IpPrefix → ShardOf → ShardOf
taken slot None shard = shard
taken slot (Some p) shard = record shard { dirty = set_of.remove shard.dirty (p, slot) }

-- ---- how these are stored, as a value of a type needs

abbrev pub member_code : Coded Member
member_code = code_by (ℕ × ℕ) (coded× coded_ℕ coded_ℕ) (λ m. (m.router, m.bgp_id)) (λ d. record { router = d.0; bgp_id = d.1 }) (λ _. refl)

abbrev pub shard_code : Coded ShardOf
shard_code = code_by (ℕ × (ℕ × (List Member × (Ribs RouteFields × CellSet))))
    (coded× coded_ℕ (coded× coded_ℕ (coded× (coded_list member_code) (coded× (ribs_code fields_code) (set_of.code (coded× prefix_code coded_ℕ))))))
    (λ s. (s.number, (s.shards, (s.members, (s.ribs, s.dirty)))))
    (λ d. record { number = d.0; shards = d.1.0; members = d.1.1.0; ribs = d.1.1.1.0; dirty = d.1.1.1.1 })
    (λ _. refl)
