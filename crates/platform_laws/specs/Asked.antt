-- What is asked of the shards of a platform.
use Rattle.std.specs.Prelude.{ℕ, Bool, true, false, List, [], Option, Some, None, option_map}
use Rattle.std.specs.List.{flat_map}
use Rattle.std.specs.Prelude.{slice_get, ◌+◌, ◌∷◌}
use Rattle.std.specs.FinSet as set_of
use Rattle.rcp_base.specs.IpPrefix.{IpPrefix}
use Rattle.rcp_base.specs.Maps.{include_all}
use Rattle.rcp_base.specs.Roster.{RosterOf}
use Rattle.rcp_model.specs.Routes.{RouteFields}
use Rattle.rcp_model.specs.ServerRibs.{Ribs, Prefixes, at_prefix, prefixes_of, is_up, has_pending}
use Rattle.platform_laws.specs.Parts.{shard_number}

-- the shard of a prefix
abbrev pub shard_of : RosterOf → List (Ribs RouteFields) → IpPrefix → Option (Ribs RouteFields)
shard_of roster shards p = slice_get shards (shard_number roster p)

-- whether a slot is connected: each shard knows it
abbrev pub is_up_in : Option (Ribs RouteFields) → ℕ → Bool
is_up_in None slot = false
is_up_in (Some ribs) slot = is_up ribs slot

abbrev pub is_connected : List (Ribs RouteFields) → ℕ → Bool
is_connected shards slot = is_up_in (slice_get shards 0) slot

-- whether a prefix is pending
abbrev pub waits_in : Option (Ribs RouteFields) → IpPrefix → Bool
waits_in None p = false
waits_in (Some ribs) p = has_pending ribs p

abbrev pub is_pending : RosterOf → List (Ribs RouteFields) → IpPrefix → Bool
is_pending roster shards p = waits_in (shard_of roster shards p) p

-- the route that a slot announces at a prefix, and the one that it is given there
abbrev pub announced_in : Option (Ribs RouteFields) → IpPrefix → ℕ → Option RouteFields
announced_in None p slot = None
announced_in (Some ribs) p slot = at_prefix ribs.announced p slot

abbrev pub given_in : Option (Ribs RouteFields) → IpPrefix → ℕ → Option RouteFields
given_in None p slot = None
given_in (Some ribs) p slot = at_prefix ribs.given p slot

abbrev pub announced_route : RosterOf → List (Ribs RouteFields) → IpPrefix → ℕ → Option RouteFields
announced_route roster shards p slot = announced_in (shard_of roster shards p) p slot

abbrev pub given_route : RosterOf → List (Ribs RouteFields) → IpPrefix → ℕ → Option RouteFields
given_route roster shards p slot = given_in (shard_of roster shards p) p slot

-- the octets of a route's attributes
abbrev pub octets_of : Option RouteFields → Option (List ℕ)
octets_of route = option_map (λ r. r.attrs) route

-- ---- prefixes

-- the prefixes of a set, rising
abbrev pub rising_of : Prefixes → List IpPrefix
rising_of prefixes = include_all (set_of.items prefixes) []

-- the pending prefixes of all shards, rising
abbrev pub all_pending : List (Ribs RouteFields) → List IpPrefix
all_pending shards = include_all (flat_map (λ ribs. set_of.items ribs.pending) shards) []

-- ---- counts

-- how many slots are connected
abbrev pub up_count : Option (Ribs RouteFields) → ℕ
up_count None = 0
up_count (Some ribs) = set_of.len ribs.connected

abbrev pub connected_count : List (Ribs RouteFields) → ℕ
connected_count shards = up_count (slice_get shards 0)

-- the sum over the shards
abbrev pub sum_over : (Ribs RouteFields → ℕ) → List (Ribs RouteFields) → ℕ
sum_over f [] = 0
sum_over f (ribs ∷ shards) = f ribs + sum_over f shards

-- how many prefixes are announced, and how many are pending
abbrev pub announced_count : List (Ribs RouteFields) → ℕ
announced_count shards = sum_over (λ ribs. set_of.len (prefixes_of (λ e. true) ribs.announced)) shards

abbrev pub pending_count : List (Ribs RouteFields) → ℕ
pending_count shards = sum_over (λ ribs. set_of.len ribs.pending) shards
