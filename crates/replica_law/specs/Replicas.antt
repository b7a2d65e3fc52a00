-- Replicas: when a partition is alike in two of them, the first difference where it isn't, and what follows where it is.
use Rattle.std.specs.Prelude.{◌≡◌, ◌≢◌, ℕ, ◌+◌, ◌<◌, ◌≤◌, ◌↔◌, Bool, true, false, ◌&&◌, ◌||◌, ◌==◌, List, [], ◌∷◌, AllPairs, Contains, Option, Some, None, IsSome, IsNone, IfSome, nat_lt, option_map, option_and_then, if◌then◌else◌}
use Rattle.rcp_base.specs.IpPrefix.{IpPrefix}
use Rattle.rcp_base.specs.Maps.{is_before}
use Rattle.rcp_base.specs.declared.names.Edge.{Edge}
use Rattle.rcp_base.specs.declared.names.Member.{Member}
use Rattle.rcp_model.specs.Assigned.{IsAssignment}
use Rattle.rcp_model.specs.Costs.{edge_cost, is_reached}
use Rattle.rcp_model.specs.RouteServer.{Domain, Announced, router_at}
use Rattle.replica_law.specs.declared.difference.Difference.{Difference}
use Rattle.replica_law.specs.declared.difference.Difference.TheVariants.{As, Member as MemberOf, Identity, LinkCost, RouteOf}
use Rattle.replica_law.specs.declared.difference.PartitionAnswer.{PartitionAnswer}

-- ---- what is known of a replica

pub record Replica : Type 0 where
  pub domain : Domain
  pub edges : List Edge
  pub connected : ℕ → Bool
  pub announced : IpPrefix → Announced
  pub given : IpPrefix → ℕ → Option (List ℕ)
  pub pending : IpPrefix → Bool

abbrev pub replica_of : ℕ → List Member → List Edge → (ℕ → Bool) → (IpPrefix → Announced) → (IpPrefix → ℕ → Option (List ℕ)) → (IpPrefix → Bool) → Replica
replica_of as_number members edges connected announced given pending = record {
  domain = record { as_number = as_number; members = members };
  edges = edges;
  connected = connected;
  announced = announced;
  given = given;
  pending = pending;
}

-- the law of what is assigned: each connected router was given what it is offered, at each prefix that isn't pending
abbrev pub IsAssigned : Replica → Type 0
IsAssigned r = IsAssignment r.domain r.edges r.connected r.announced r.given r.pending

-- the slot of a router, where the roster has it
abbrev pub slot_of : List Member → ℕ → Option ℕ
slot_of [] router = None
slot_of (member ∷ members) router = if member.router == router then Some 0 else option_map (λ slot. slot + 1) (slot_of members router)

-- its BGP Identifier, where the roster has it
abbrev pub identifier_of : List Member → ℕ → Option ℕ
identifier_of [] router = None
identifier_of (member ∷ members) router = if member.router == router then Some member.bgp_id else identifier_of members router

-- the attribute octets that a router of the roster announced for a prefix, if it did
abbrev pub route_from : Replica → ℕ → IpPrefix → Option (List ℕ)
route_from r router p = option_and_then (r.announced p) (slot_of r.domain.members router)

-- a router is in the partition of another one: there is a walk
abbrev pub is_with : Replica → ℕ → ℕ → Bool
is_with r least router = is_reached r.edges least router

-- ---- alike

-- The partition of a router is alike in both: the AS numbers are equal; it has the same routers; each of them has the same
-- BGP Identifier in both or is in neither roster; between any two of them the least cost of an edge is the same, or there is no edge
-- in both; each of them announced the same octets for each prefix, or none in both.
pub record IsAlike (first second : Replica) (least : ℕ) : Type 0 where
  pub as_number : first.domain.as_number ≡ second.domain.as_number
  pub partition : (u : ℕ) → is_with first least u ≡ is_with second least u
  pub identities : (u : ℕ) → is_with first least u ≡ true → identifier_of first.domain.members u ≡ identifier_of second.domain.members u
  pub links : (u v : ℕ) → is_with first least u ≡ true → is_with first least v ≡ true → edge_cost first.edges u v ≡ edge_cost second.edges u v
  pub routes : (u : ℕ) (p : IpPrefix) → is_with first least u ≡ true → route_from first u p ≡ route_from second u p

-- ---- differences

-- what a difference says: its two values are those of the two replicas, and they differ
abbrev pub IsDifference : Replica → Replica → ℕ → Difference → Type 0
IsDifference first second least (As a b) =
    (first.domain.as_number ≡ a) × (second.domain.as_number ≡ b) × (a ≢ b)
IsDifference first second least (MemberOf u a b) =
    (is_with first least u ≡ a) × (is_with second least u ≡ b) × (a ≢ b)
IsDifference first second least (Identity u a b) =
    (is_with first least u ≡ true) × (identifier_of first.domain.members u ≡ a) × (identifier_of second.domain.members u ≡ b) × (a ≢ b)
IsDifference first second least (LinkCost u v a b) =
    (is_with first least u ≡ true) × (is_with first least v ≡ true) × (edge_cost first.edges u v ≡ a) × (edge_cost second.edges u v ≡ b) × (a ≢ b)
IsDifference first second least (RouteOf u p a b) =
    (is_with first least u ≡ true) × (route_from first u p ≡ a) × (route_from second u p ≡ b) × (a ≢ b)

-- the kinds in their order
abbrev pub kind_of : Difference → ℕ
kind_of (As a b) = 0
kind_of (MemberOf u a b) = 1
kind_of (Identity u a b) = 2
kind_of (LinkCost u v a b) = 3
kind_of (RouteOf u p a b) = 4

-- by kind, then by router, then by the other end or the prefix
abbrev pub comes_before : Difference → Difference → Bool
comes_before (MemberOf u a b) (MemberOf w c d) = nat_lt u w
comes_before (Identity u a b) (Identity w c d) = nat_lt u w
comes_before (LinkCost u v a b) (LinkCost w x c d) = nat_lt u w || u == w && nat_lt v x
comes_before (RouteOf u p a b) (RouteOf w q c d) = nat_lt u w || u == w && is_before p q
comes_before d e = nat_lt (kind_of d) (kind_of e)

-- the first difference: none comes before it
pub record IsFirstDifference (first second : Replica) (least : ℕ) (d : Difference) : Type 0 where
  pub stands : IsDifference first second least d
  pub none_before : (other : Difference) → IsDifference first second least other → comes_before other d ≡ false

-- ---- the law

-- a connected router, with its slot
pub record IsConnected (r : Replica) (router slot : ℕ) : Type 0 where
  pub seat : router_at r.domain.members slot ≡ Some router
  pub session : r.connected slot ≡ true

-- Each router of the partition that is connected in both was given the same octets, or none in both, at each prefix that is
-- pending in neither.
abbrev pub HaveEqualTables : Replica → Replica → ℕ → Type 0
HaveEqualTables first second least =
    (router slot other : ℕ) (p : IpPrefix) → is_with first least router ≡ true
    → IsConnected first router slot → IsConnected second router other → first.pending p ≡ false → second.pending p ≡ false
    → first.given p slot ≡ second.given p other

-- where a partition is alike in two replicas, their tables are equal in it
abbrev pub ReplicaLaw : Type 0
ReplicaLaw = (first second : Replica) → IsAssigned first → IsAssigned second → (least : ℕ) → IsAlike first second least → HaveEqualTables first second least

-- ---- the answers

-- the least router by ID of a partition that has a router of the roster
pub record IsLeastOfPartition (r : Replica) (least : ℕ) : Type 0 where
  pub router : ℕ
  pub in_roster : IsSome (slot_of r.domain.members router)
  pub inside : is_with r least router ≡ true
  pub none_lower : (v : ℕ) → is_with r least v ≡ true → least ≤ v

-- an answer: no difference exactly where the partition is alike, and then equal tables; else the first difference
pub record IsAnswer (first second : Replica) (answer : PartitionAnswer) : Type 0 where
  pub same : IsNone answer.difference ↔ IsAlike first second answer.least
  pub tables : IsNone answer.difference → HaveEqualTables first second answer.least
  pub difference : IfSome answer.difference (IsFirstDifference first second answer.least)

-- one answer for each partition of the first replica that has a router of its roster, by rising least router
pub record AreAnswers (first second : Replica) (answers : List PartitionAnswer) : Type 0 where
  pub rising : AllPairs (λ a b. a.least < b.least) answers
  pub each : (least : ℕ) → IsLeastOfPartition first least ↔ ((answer : PartitionAnswer) × Contains answers answer × (answer.least ≡ least))
  pub right : (answer : PartitionAnswer) → Contains answers answer → IsAnswer first second answer
