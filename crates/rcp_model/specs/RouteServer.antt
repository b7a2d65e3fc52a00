-- The route control server: what is announced, what is pending, and what each router was given.
use Rattle.std.specs.Prelude.{◌≡◌, ℕ, zero, suc, Bool, true, false, not, ◌&&◌, ◌||◌, ◌==◌, List, [], ◌∷◌, length, map, filter, Option, Some, None, is_some, IsSome, slice_get, if◌then◌else◌, bytes_eq}
use Rattle.rcp_base.specs.IpPrefix.{IpPrefix}
use Rattle.rcp_base.specs.declared.names.Member.{Member}
use Rattle.rcp_base.specs.declared.names.Edge.{Edge}
use Rattle.rcp_base.specs.Maps.{get_at, put_at, set_at, without, same_prefix, include, include_all, is_among}
use Rattle.rcp_model.specs.Attributes.{number_width}
use Rattle.rcp_model.specs.Routes.{RouteFields, route_in, is_usable}
use Rattle.rcp_model.specs.Updates.{Table}
use Rattle.rcp_model.specs.LinkState.{same_number}
use Rattle.rcp_model.specs.Costs.{cost}
use Rattle.rcp_model.specs.Decision.{Contender, contender, choice}

-- the server's configuration: its AS number, and the routers by slot
pub record Domain : Type 0 where
  pub as_number : ℕ
  pub members : List Member

-- ---- announcements: a map from (slot, prefix) to attribute octets, from which all else of the route follows

abbrev pub Place : Type 0
Place = ℕ × IpPrefix

abbrev pub same_place : Place → Place → Bool
same_place a b = a.0 == b.0 && same_prefix a.1 b.1

abbrev pub Announcements : Type 0
Announcements = List (Place × List ℕ)

abbrev pub announced_by : Announcements → ℕ → IpPrefix → Option (List ℕ)
announced_by announcements slot p = get_at same_place (slot, p) announcements

-- who announces what at a prefix: the attribute octets by slot
abbrev pub Announced : Type 0
Announced = ℕ → Option (List ℕ)

abbrev pub announced_at : Announcements → IpPrefix → Announced
announced_at announcements p = λ slot. announced_by announcements slot p

-- the prefixes that are announced, or those that a slot announces
abbrev pub announced_prefixes : Announcements → List IpPrefix
announced_prefixes announcements = map (λ entry. entry.0.1) announcements

abbrev pub of_slot : ℕ → Announcements → Announcements
of_slot slot announcements = filter (λ entry. entry.0.0 == slot) announcements

-- whether the attribute octets are the same, or there are none in both
abbrev pub same_octets : Option (List ℕ) → Option (List ℕ) → Bool
same_octets None None = true
same_octets None (Some b) = false
same_octets (Some a) None = false
same_octets (Some a) (Some b) = bytes_eq a b

-- ---- the state of the server

-- The connected slots with their tables, the announcements, the pending prefixes as a rising list, and the edges of the interior network.
pub record Server : Type 0 where
  pub tables : List (ℕ × Table)
  pub announcements : Announcements
  pub pending : List IpPrefix
  pub edges : List Edge

abbrev pub table_of : Server → ℕ → Option Table
table_of server slot = get_at same_number slot server.tables

abbrev pub is_connected : Server → ℕ → Bool
is_connected server slot = is_some (table_of server slot)

abbrev pub is_pending : Server → IpPrefix → Bool
is_pending server p = is_among server.pending p

-- ---- candidates and offers

abbrev pub router_at : List Member → ℕ → Option ℕ
router_at [] slot = None
router_at (member ∷ members) zero = Some member.router
router_at (member ∷ members) (suc slot) = router_at members slot

-- the cost from one router to another
abbrev pub cost_between : List Edge → Option ℕ → Option ℕ → Option ℕ
cost_between edges None b = None
cost_between edges (Some u) None = None
cost_between edges (Some u) (Some v) = cost edges u v

-- the interior cost from one slot to another
unfoldable pub slot_cost : List Edge → List Member → ℕ → ℕ → Option ℕ
slot_cost edges members from to = cost_between edges (router_at members from) (router_at members to)

-- the contender that an announcement is, where its route is usable and its router is reached
abbrev pub contender_of : ℕ → ℕ → RouteFields → Option ℕ → Option Contender
contender_of slot id route None = None
contender_of slot id route (Some reached) = if is_usable route then Some (contender slot id route) else None

abbrev pub announcement_contender : Domain → ℕ → ℕ → Option (List ℕ) → Option ℕ → Option Contender
announcement_contender domain slot id None cost_to = None
announcement_contender domain slot id (Some octets) cost_to = contender_of slot id (route_in number_width domain.as_number octets) cost_to

abbrev pub cons_some : Option Contender → List Contender → List Contender
cons_some None list = list
cons_some (Some a) list = a ∷ list

-- The candidates among these members, of which the first has this slot: those with a usable announcement and a cost from the router.
abbrev pub candidates_from : Domain → Announced → (ℕ → Option ℕ) → ℕ → List Member → List Contender
candidates_from domain announced cost_to slot [] = []
candidates_from domain announced cost_to slot (member ∷ members) =
    cons_some (announcement_contender domain slot member.bgp_id (announced slot) (cost_to slot))
    (candidates_from domain announced cost_to (suc slot) members)

-- the candidates of a slot among the announcements of a prefix, in roster order
unfoldable pub candidates : Domain → Announced → List Edge → ℕ → List Contender
candidates domain announced edges slot =
    candidates_from domain announced (slot_cost edges domain.members slot) 0 domain.members

-- a contender that is a candidate: a member with a usable announcement and a cost from the router
pub record IsCandidate (domain : Domain) (announced : Announced) (edges : List Edge) (slot : ℕ) (a : Contender) : Type 0 where
  pub member : Member
  pub seat : slice_get domain.members a.slot ≡ Some member
  pub octets : List ℕ
  pub is_announced : announced a.slot ≡ Some octets
  pub usable : is_usable (route_in number_width domain.as_number octets) ≡ true
  pub reached : IsSome (slot_cost edges domain.members slot a.slot)
  pub compared : a ≡ contender a.slot member.bgp_id (route_in number_width domain.as_number octets)

-- the slot whose announcement a slot chooses
unfoldable pub choice_of : Domain → Announced → List Edge → ℕ → Option ℕ
choice_of domain announced edges slot =
    choice slot (slot_cost edges domain.members slot) (candidates domain announced edges slot)

-- the attribute octets of the choice, where it is another slot
abbrev pub unless_own : ℕ → Announced → Option ℕ → Option (List ℕ)
unless_own slot octets None = None
unless_own slot octets (Some chosen) = if chosen == slot then None else octets chosen

-- what a slot is offered at a prefix, of which these are the announcements
unfoldable pub offer : Domain → Announced → List Edge → ℕ → Option (List ℕ)
offer domain announced edges slot = unless_own slot announced (choice_of domain announced edges slot)

-- ---- events: what each does to the tables, the announcements, the pending prefixes and the edges

pub data ServerEvent : Type 0 where
  Up : ℕ → ServerEvent
  Down : ℕ → ServerEvent
  Change : ℕ → IpPrefix → Option (List ℕ) → ServerEvent
  Links : List Edge → ServerEvent
  Work : IpPrefix → ServerEvent

abbrev pub same_cost : Option ℕ → Option ℕ → Bool
same_cost None None = true
same_cost None (Some n) = false
same_cost (Some m) None = false
same_cost (Some m) (Some n) = m == n

-- whether some slot below a number has another cost to the slot before and after
abbrev pub cost_differs : List Edge → List Edge → List Member → ℕ → ℕ → Bool
cost_differs before after members e zero = false
cost_differs before after members e (suc q) =
    not (same_cost (slot_cost before members q e) (slot_cost after members q e)) || cost_differs before after members e q

-- the announcements of those to whom some slot's cost differs before and after
abbrev pub moved : Domain → List Edge → List Edge → Announcements → Announcements
moved domain before after announcements =
    filter (λ entry. cost_differs before after domain.members entry.0.0 (length domain.members)) announcements

-- each connected slot is given what it is offered at the prefix
abbrev pub worked : Domain → Announcements → List Edge → IpPrefix → List (ℕ × Table) → List (ℕ × Table)
worked domain announcements edges p tables =
    map (λ entry. (entry.0, set_at same_prefix p (offer domain (announced_at announcements p) edges entry.0) entry.1)) tables

unfoldable pub after : Domain → ServerEvent → Server → Server
after domain (Up slot) server = record server {
  tables = put_at same_number slot [] server.tables;
  pending = include_all (announced_prefixes server.announcements) server.pending;
}
after domain (Down slot) server = record server {
  tables = without (same_number slot) server.tables;
  announcements = filter (λ entry. not (entry.0.0 == slot)) server.announcements;
  pending = include_all (announced_prefixes (of_slot slot server.announcements)) server.pending;
}
after domain (Change slot p octets) server =
    if is_connected server slot && not (same_octets (announced_by server.announcements slot p) octets)
    then record server {
      announcements = set_at same_place (slot, p) octets server.announcements;
      pending = include p server.pending;
    }
    else server
after domain (Links edges) server = record server {
  pending = include_all (announced_prefixes (moved domain server.edges edges server.announcements)) server.pending;
  edges = edges;
}
after domain (Work p) server = record server {
  tables = worked domain server.announcements server.edges p server.tables;
  pending = filter (λ q. not (same_prefix p q)) server.pending;
}

-- the events of a list, one after another
unfoldable pub after_all : Domain → List ServerEvent → Server → Server
after_all domain [] server = server
after_all domain (event ∷ events) server = after_all domain events (after domain event server)
