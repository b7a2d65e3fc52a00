-- The route control server by what can be asked of it, as finite maps, on which stores and shards stand: what each event does to
-- it, and what the server of lists comes to. What is announced is any value that a route is read from: the octets of its attributes,
-- or the route itself.
use Rattle.std.specs.Prelude.{◌≡◌, ℕ, suc, Bool, true, false, not, ◌&&◌, ◌==◌, List, [], ◌∷◌, map, length, Option, Some, None, if◌then◌else◌, refl, bytes_eq}
use Rattle.std.specs.Coded.{Coded, code_by, coded×, coded_ℕ, coded_list}
use Rattle.std.specs.FinMap as map_of
use Rattle.std.specs.FinSet as set_of
use Rattle.std.specs.Ordering.{nat_cmp}
use Rattle.rcp_base.specs.IpPrefix.{IpPrefix, prefix_cmp}
use Rattle.rcp_base.specs.declared.names.Member.{Member}
use Rattle.rcp_base.specs.declared.names.Edge.{Edge}
use Rattle.rcp_base.specs.Maps.{get_at, same_prefix}
use Rattle.rcp_model.specs.Attributes.{number_width}
use Rattle.rcp_model.specs.Routes.{RouteFields, route_in}
use Rattle.rcp_model.specs.Updates.{Table}
use Rattle.rcp_model.specs.Decision.{Contender, choice}
use Rattle.rcp_model.specs.RouteServer.{Domain, Place, Server, ServerEvent, slot_cost, contender_of, cons_some, cost_differs}
use Rattle.rcp_model.specs.RouteServer as lists
use Rattle.rcp_model.specs.Ribs.{RibKey, rib_cmp, prefix_code}

-- ---- what is announced

-- who announces what at a prefix
abbrev pub Values : Type 0 → Type 0
Values V = ℕ → Option V

-- the routers by slot, how a route is read from what is announced, and a test of whether two announcements are the same
pub record Reader (V : Type 0) : Type 0 where
  pub members : List Member
  pub route : V → RouteFields
  pub same : V → V → Bool

-- whether both are the same, or there are none
abbrev pub same_values : {V : Type 0} → (V → V → Bool) → Option V → Option V → Bool
same_values same None None = true
same_values same None (Some b) = false
same_values same (Some a) None = false
same_values same (Some a) (Some b) = same a b

-- a test that says exactly which are the same
pub record IsExact {V : Type 0} (same : V → V → Bool) : Type 0 where
  pub sound : (a b : V) → same a b ≡ true → a ≡ b
  pub itself : (a : V) → same a a ≡ true

-- the octets of the attributes, of which the local AS makes a route
abbrev pub octets_reader : Domain → Reader (List ℕ)
octets_reader domain = record { members = domain.members; route = route_in number_width domain.as_number; same = bytes_eq }

abbrev pub same_bit : Bool → Bool → Bool
same_bit a b = if a then b else not b

-- whether all fields of two routes are the same, and the octets of their attributes
abbrev pub same_route : RouteFields → RouteFields → Bool
same_route a b =
    a.pref == b.pref && (a.hops == b.hops && (a.origin == b.origin && (a.neighbour == b.neighbour && (a.med == b.med
    && (same_bit a.looped b.looped && (same_bit a.long b.long && (a.next_hop == b.next_hop && bytes_eq a.attrs b.attrs)))))))

-- the route itself
abbrev pub route_reader : List Member → Reader RouteFields
route_reader members = record { members = members; route = λ route. route; same = same_route }

-- the contender that an announcement is, where its route is usable and its router is reached
abbrev pub value_contender : {V : Type 0} → (V → RouteFields) → ℕ → ℕ → Option V → Option ℕ → Option Contender
value_contender route slot id None cost_to = None
value_contender route slot id (Some value) cost_to = contender_of slot id (route value) cost_to

-- the candidates among these members, of which the first has this slot
abbrev pub contenders_from : {V : Type 0} → (V → RouteFields) → Values V → (ℕ → Option ℕ) → ℕ → List Member → List Contender
contenders_from route values cost_to slot [] = []
contenders_from route values cost_to slot (member ∷ members) =
    cons_some (value_contender route slot member.bgp_id (values slot) (cost_to slot)) (contenders_from route values cost_to (suc slot) members)

-- what the choice announces, where it is another slot
abbrev pub of_other : {V : Type 0} → ℕ → Values V → Option ℕ → Option V
of_other slot values None = None
of_other slot values (Some chosen) = if chosen == slot then None else values chosen

-- what a slot is offered at a prefix, of which these are the announcements
unfoldable pub offer_of : {V : Type 0} → Reader V → Values V → List Edge → ℕ → Option V
offer_of reader values edges slot =
    of_other slot values (choice slot (slot_cost edges reader.members slot)
    (contenders_from reader.route values (slot_cost edges reader.members slot) 0 reader.members))

-- ---- events

pub data RibEvent (V : Type 0) : Type 0 where
  Up : ℕ → RibEvent V
  Down : ℕ → RibEvent V
  Change : ℕ → IpPrefix → Option V → RibEvent V
  Links : List Edge → RibEvent V
  Work : IpPrefix → RibEvent V

-- an event of the server of lists
abbrev pub event_of : ServerEvent → RibEvent (List ℕ)
event_of (lists.Up slot) = Up slot
event_of (lists.Down slot) = Down slot
event_of (lists.Change slot p octets) = Change slot p octets
event_of (lists.Links edges) = Links edges
event_of (lists.Work p) = Work p

-- ---- the server

-- what is announced or given, by prefix and slot
abbrev pub Rib : Type 0 → Type 0
Rib V = map_of.FinMap rib_cmp V

abbrev pub Prefixes : Type 0
Prefixes = set_of.FinSet prefix_cmp

-- The connected slots, what each slot announced (RFC 4271 section 3.2: Adj-RIBs-In), what each was given (Adj-RIBs-Out), the
-- pending prefixes, and the edges of the interior network.
pub record Ribs (V : Type 0) : Type 0 where
  pub connected : set_of.FinSet nat_cmp
  pub announced : Rib V
  pub given : Rib V
  pub pending : Prefixes
  pub edges : List Edge

-- ---- a base

-- what each slot has at a prefix
abbrev pub at_prefix : {V : Type 0} → Rib V → IpPrefix → Values V
at_prefix rib p = λ slot. map_of.get rib (p, slot)

-- the base with this value, or with none
abbrev pub with_value : {V : Type 0} → RibKey → Option V → Rib V → Rib V
with_value key None rib = map_of.remove rib key
with_value key (Some value) rib = map_of.insert rib key value

abbrev pub without_slot : {V : Type 0} → ℕ → Rib V → Rib V
without_slot slot rib = map_of.retain_keys rib (λ key. not (key.1 == slot))

-- the prefixes of the slots that pass the test
abbrev pub prefixes_of : {V : Type 0} → (ℕ → Bool) → Rib V → Prefixes
prefixes_of test rib = set_of.from_list (map (λ key. key.0) (map_of.keys (map_of.retain_keys rib (λ key. test key.1))))

-- the base in which each of these slots has its value at the prefix
abbrev pub with_each : {V : Type 0} → IpPrefix → Values V → List ℕ → Rib V → Rib V
with_each p values [] rib = rib
with_each p values (slot ∷ slots) rib = with_value (p, slot) (values slot) (with_each p values slots rib)

-- ---- what is asked

abbrev pub is_up : {V : Type 0} → Ribs V → ℕ → Bool
is_up ribs slot = set_of.contains ribs.connected slot

abbrev pub has_pending : {V : Type 0} → Ribs V → IpPrefix → Bool
has_pending ribs p = set_of.contains ribs.pending p

-- what a slot is offered at a prefix
abbrev pub offered : {V : Type 0} → Reader V → Ribs V → IpPrefix → ℕ → Option V
offered reader ribs p slot = offer_of reader (at_prefix ribs.announced p) ribs.edges slot

-- each connected slot was given what it is offered at each prefix that isn't pending
abbrev pub AreSettled : {V : Type 0} → Reader V → Ribs V → Type 0
AreSettled reader ribs =
    (slot : ℕ) (p : IpPrefix) → is_up ribs slot ≡ true → has_pending ribs p ≡ false → at_prefix ribs.given p slot ≡ offered reader ribs p slot

-- what each event does: the same as to the server of lists
unfoldable pub ribs_after : {V : Type 0} → Reader V → RibEvent V → Ribs V → Ribs V
ribs_after reader (Up slot) ribs = record ribs {
  connected = set_of.insert ribs.connected slot;
  given = without_slot slot ribs.given;
  pending = set_of.union ribs.pending (prefixes_of (λ e. true) ribs.announced);
}
ribs_after reader (Down slot) ribs = record ribs {
  connected = set_of.remove ribs.connected slot;
  announced = without_slot slot ribs.announced;
  given = without_slot slot ribs.given;
  pending = set_of.union ribs.pending (prefixes_of (λ e. e == slot) ribs.announced);
}
ribs_after reader (Change slot p value) ribs =
    if is_up ribs slot && not (same_values reader.same (map_of.get ribs.announced (p, slot)) value)
    then record ribs {
      announced = with_value (p, slot) value ribs.announced;
      pending = set_of.insert ribs.pending p;
    }
    else ribs
ribs_after reader (Links edges) ribs = record ribs {
  pending = set_of.union ribs.pending
      (prefixes_of (λ e. cost_differs ribs.edges edges reader.members e (length reader.members)) ribs.announced);
  edges = edges;
}
ribs_after reader (Work p) ribs = record ribs {
  given = with_each p (offered reader ribs p) (set_of.items ribs.connected) ribs.given;
  pending = set_of.remove ribs.pending p;
}

-- the events of a list, one after another
unfoldable pub ribs_after_all : {V : Type 0} → Reader V → List (RibEvent V) → Ribs V → Ribs V
ribs_after_all reader [] ribs = ribs
ribs_after_all reader (event ∷ events) ribs = ribs_after_all reader events (ribs_after reader event ribs)

-- no slot is connected and nothing is announced
abbrev pub empty_ribs : {V : Type 0} → List Edge → Ribs V
empty_ribs edges = record {
  connected = set_of.empty;
  announced = map_of.empty;
  given = map_of.empty;
  pending = set_of.empty;
  edges = edges;
}

-- ---- what the server of lists comes to

-- the base in which a slot has this table, and the others have what they had
abbrev pub with_table : ℕ → Table → Rib (List ℕ) → Rib (List ℕ)
with_table slot [] rib = without_slot slot rib
with_table slot (cell ∷ table) rib = map_of.insert (with_table slot table rib) (cell.0, slot) cell.1

abbrev pub rib_of_tables : List (ℕ × Table) → Rib (List ℕ)
rib_of_tables [] = map_of.empty
rib_of_tables (entry ∷ tables) = with_table entry.0 entry.1 (rib_of_tables tables)

-- the entry of a table, where there is one
abbrev pub cell_in : Option Table → IpPrefix → Option (List ℕ)
cell_in None p = None
cell_in (Some table) p = get_at same_prefix p table

-- an announcement by its prefix and then its slot
abbrev pub by_prefix : Place × List ℕ → RibKey × List ℕ
by_prefix entry = ((entry.0.1, entry.0.0), entry.1)

abbrev pub ribs_of : Server → Ribs (List ℕ)
ribs_of server = record {
  connected = set_of.from_list (map (λ entry. entry.0) server.tables);
  announced = map_of.from_entries (map by_prefix server.announcements);
  given = rib_of_tables server.tables;
  pending = set_of.from_list server.pending;
  edges = server.edges;
}

-- ---- parts, for a rule that says which prefixes are a part's own

-- the part of some prefixes: every connected slot, every edge, and what there is of these prefixes
abbrev pub part : {V : Type 0} → (IpPrefix → Bool) → Ribs V → Ribs V
part owns ribs = record ribs {
  announced = map_of.retain_keys ribs.announced (λ key. owns key.0);
  given = map_of.retain_keys ribs.given (λ key. owns key.0);
  pending = set_of.retain ribs.pending owns;
}

-- the prefixes of one number, where the rule gives each prefix a number
abbrev pub is_of : (IpPrefix → ℕ) → ℕ → IpPrefix → Bool
is_of rule number p = rule p == number

-- Up, Down and Links concern every part, Change and Work that of their prefix.
abbrev pub concerns : {V : Type 0} → (IpPrefix → Bool) → RibEvent V → Bool
concerns owns (Up slot) = true
concerns owns (Down slot) = true
concerns owns (Change slot p value) = owns p
concerns owns (Links edges) = true
concerns owns (Work p) = owns p

-- ---- how these are stored, as a value of a type needs

abbrev pub rib_code : {V : Type 0} → Coded V → Coded (Rib V)
rib_code value = map_of.code (coded× prefix_code coded_ℕ) value

abbrev pub edge_code : Coded Edge
edge_code = code_by (ℕ × (ℕ × ℕ)) (coded× coded_ℕ (coded× coded_ℕ coded_ℕ)) (λ e. (e.from, (e.to, e.cost)))
    (λ n. record { from = n.0; to = n.1.0; cost = n.1.1 }) (λ _. refl)

abbrev pub ribs_code : {V : Type 0} → Coded V → Coded (Ribs V)
ribs_code {V} value = code_by (set_of.FinSet nat_cmp × (Rib V × (Rib V × (Prefixes × List Edge))))
    (coded× (set_of.code coded_ℕ) (coded× (rib_code value) (coded× (rib_code value) (coded× (set_of.code prefix_code) (coded_list edge_code)))))
    (λ ribs. (ribs.connected, (ribs.announced, (ribs.given, (ribs.pending, ribs.edges)))))
    (λ n. record { connected = n.0; announced = n.1.0; given = n.1.1.0; pending = n.1.1.1.0; edges = n.1.1.1.1 })
    (λ _. refl)
