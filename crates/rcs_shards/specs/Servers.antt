-- All shards of the route control server: the roster, and the server of each shard by number.
use Rattle.std.specs.Prelude.{ℕ, List, [], ◌∷◌, map, replicate, slice_get, Option, Some, IsSome, refl}
use Rattle.std.specs.Coded.{Coded, code_by, coded×, coded_ℕ, coded_list}
use Rattle.std.specs.FinSet as set_of
use Rattle.std.specs.Ordering.{nat_cmp}
use Rattle.rcp_base.specs.IpPrefix.{IpPrefix}
use Rattle.rcp_base.specs.Roster.{RosterOf}
use Rattle.rcp_base.specs.declared.names.Edge.{Edge}
use Rattle.rcp_base.specs.declared.names.Member.{Member}
use Rattle.rcp_model.specs.Assigned.{IsLeast, IsAfter, IsAssignment}
use Rattle.rcp_model.specs.Routes.{RouteFields}
use Rattle.rcp_model.specs.RouteServer.{Announced}
use Rattle.rcp_model.specs.ServerRibs.{RibEvent, Ribs, empty_ribs, edge_code, ribs_code}
use Rattle.feed_meaning.specs.Platform.{domain_of}
use Rattle.attr_store.specs.Kept.{fields_code}
use Rattle.platform_laws.specs.Parts.{AreSound, shards_after, shards_after_all}
use Rattle.platform_laws.specs.Asked.{is_connected, is_pending, announced_route, given_route, octets_of}
use Rattle.platform_laws.specs.Work.{works, least_of, updates_to}
use Rattle.rcs_shard.specs.Shards.{member_code}

-- the roster, and the server of each of its shards
pub record ServerOf : Type 0 where
  pub roster : RosterOf
  pub shards : List (Ribs RouteFields)

-- no slot is connected and nothing is announced
abbrev pub new_server : RosterOf → List Edge → ServerOf
new_server roster edges = record { roster = roster; shards = replicate roster.shards (empty_ribs edges) }

-- ---- what is asked

-- the connected slots and the edges: each shard knows them
abbrev pub connected_in : List (Ribs RouteFields) → set_of.FinSet nat_cmp
connected_in [] = set_of.empty
connected_in (ribs ∷ shards) = ribs.connected

abbrev pub edges_in : List (Ribs RouteFields) → List Edge
edges_in [] = []
edges_in (ribs ∷ shards) = ribs.edges

-- the attribute octets that each slot announces for a prefix, and those that it is given there
abbrev pub announced_octets : ServerOf → IpPrefix → Announced
announced_octets server p slot = octets_of (announced_route server.roster server.shards p slot)

abbrev pub given_octets : ServerOf → IpPrefix → ℕ → Option (List ℕ)
given_octets server p slot = octets_of (given_route server.roster server.shards p slot)

-- the least prefix after the given one at which a slot is given a route
abbrev pub IsNextGiven : ServerOf → ℕ → Option IpPrefix → Option IpPrefix → Type 0
IsNextGiven server slot after next = IsLeast (λ p. IsAfter after p × IsSome (given_route server.roster server.shards p slot)) next

-- the shards are sound: what each has is of its own prefixes, and settled, and all have the same edges and connected slots
abbrev pub IsSoundServer : ServerOf → Type 0
IsSoundServer server = AreSound server.roster (edges_in server.shards) (connected_in server.shards) server.shards

-- what the shards answer is an assignment
abbrev pub IsAssigned : ServerOf → Type 0
IsAssigned server = IsAssignment (domain_of server.roster) (edges_in server.shards) (is_connected server.shards)
    (announced_octets server) (given_octets server) (is_pending server.roster server.shards)

-- ---- what each call does

-- an event
abbrev pub acted : RibEvent RouteFields → ServerOf → ServerOf
acted event server = record server { shards = shards_after server.roster event server.shards }

-- work on these prefixes, one after another
abbrev pub worked : List IpPrefix → ServerOf → ServerOf
worked prefixes server = record server { shards = shards_after_all server.roster (works prefixes) server.shards }

-- the least pending prefixes of the shard of a number, so many at most: none where no shard has it
abbrev pub least_pending : ℕ → ℕ → ServerOf → List IpPrefix
least_pending number count server = least_of (slice_get server.shards number) count

-- what each of these slots is sent where the one server comes to be the other by work on these prefixes
abbrev pub sent : List IpPrefix → ServerOf → ServerOf → List ℕ → List (List (List ℕ))
sent prefixes before now slots = map (λ slot. updates_to before.roster prefixes before.shards now.shards (Some slot)) slots

-- ---- how it is stored, as a value of a type needs

abbrev pub roster_code : Coded RosterOf
roster_code = code_by (ℕ × (ℕ × (ℕ × (ℕ × (ℕ × (List Member × List Edge))))))
    (coded× coded_ℕ (coded× coded_ℕ (coded× coded_ℕ (coded× coded_ℕ (coded× coded_ℕ (coded× (coded_list member_code) (coded_list edge_code)))))))
    (λ r. (r.as_number, (r.id, (r.shards, (r.hold, (r.area, (r.members, r.links)))))))
    (λ n. record { as_number = n.0; id = n.1.0; shards = n.1.1.0; hold = n.1.1.1.0; area = n.1.1.1.1.0; members = n.1.1.1.1.1.0; links = n.1.1.1.1.1.1 })
    (λ _. refl)

abbrev pub server_code : Coded ServerOf
server_code = code_by (RosterOf × List (Ribs RouteFields)) (coded× roster_code (coded_list (ribs_code fields_code)))
    (λ s. (s.roster, s.shards)) (λ n. record { roster = n.0; shards = n.1 }) (λ _. refl)
