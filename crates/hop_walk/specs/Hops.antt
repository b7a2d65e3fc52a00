-- Paths of routers to the egress of a prefix, and what each router on the way chooses.
use Rattle.std.specs.Prelude.{◌≡◌, ℕ, ◌+◌, ◌≤◌, Bool, true, false, List, [], ◌∷◌, length, Contains, Option, Some, None}
use Rattle.rcp_base.specs.IpPrefix.{IpPrefix}
use Rattle.rcp_base.specs.declared.names.Edge.{Edge}
use Rattle.rcp_model.specs.Assigned.{IsAssignment}
use Rattle.rcp_model.specs.Costs.{Walk, cost, is_reached}
use Rattle.rcp_model.specs.Edges.{is_edge_before}
use Rattle.rcp_model.specs.RouteServer.{Domain, Announced, router_at, choice_of, unless_own}
use Rattle.feed_format.specs.declared.status.WalkWhy.{WalkWhy}
use Rattle.feed_format.specs.declared.status.WalkWhy.TheVariants as why
use Rattle.hop_walk.specs.declared.refusal.WalkError.{WalkError}
use Rattle.hop_walk.specs.declared.refusal.WalkError.TheVariants as error

-- ---- what is known of the routers at one prefix

pub record Network : Type 0 where
  pub domain : Domain
  pub edges : List Edge
  pub connected : ℕ → Bool
  pub announced : Announced
  pub given : ℕ → Option (List ℕ)
  pub pending : Bool

abbrev pub network_at : Domain → List Edge → (ℕ → Bool) → (IpPrefix → Announced) → (IpPrefix → ℕ → Option (List ℕ)) → (IpPrefix → Bool) → IpPrefix → Network
network_at domain edges connected announced given pending p = record {
  domain = domain;
  edges = edges;
  connected = connected;
  announced = announced p;
  given = given p;
  pending = pending p;
}

abbrev pub router_of : Network → ℕ → Option ℕ
router_of net slot = router_at net.domain.members slot

-- the slot whose route a slot chooses
abbrev pub egress_of : Network → ℕ → Option ℕ
egress_of net slot = choice_of net.domain net.announced net.edges slot

-- the slot is the router's, and it is connected
pub record IsConnected (net : Network) (router slot : ℕ) : Type 0 where
  pub seat : router_of net slot ≡ Some router
  pub session : net.connected slot ≡ true

-- ---- shortest paths

-- A router on a shortest path: a walk to it and one onward cost together what the least walk does.
pub record IsOnTheWay (edges : List Edge) (u w v : ℕ) : Type 0 where
  pub so_far : ℕ
  pub onward : ℕ
  pub first : Walk edges u w so_far
  pub second : Walk edges w v onward
  pub shortest : cost edges u v ≡ Some (so_far + onward)

-- a router that stands next on a shortest path: at the end of an edge from which some walk goes on
pub record IsNext (edges : List Edge) (u w v : ℕ) : Type 0 where
  pub edge : Edge
  pub there : Contains edges edge
  pub begins : edge.from ≡ u
  pub ends : edge.to ≡ w
  pub onward : ℕ
  pub rest : Walk edges w v onward
  pub shortest : cost edges u v ≡ Some (edge.cost + onward)

-- the one with the least ID
pub record IsLeastNext (edges : List Edge) (u w v : ℕ) : Type 0 where
  pub next : IsNext edges u w v
  pub least : (x : ℕ) → IsNext edges u x v → w ≤ x

-- the routers of a path from u to v, of which each next one is the least by ID that stands next on a shortest path to v
pub data IsPath (edges : List Edge) (v : ℕ) : ℕ → List ℕ → Type 0 where
  arrived : IsPath edges v v (v ∷ [])
  onward : (u w : ℕ) (routers : List ℕ) → IsLeastNext edges u w v → IsPath edges v w routers → IsPath edges v u (u ∷ routers)

-- a list that has each router of the partition of u
abbrev pub HasPartition : List Edge → ℕ → List ℕ → Type 0
HasPartition edges u routers = (v : ℕ) → is_reached edges u v ≡ true → Contains routers v

-- ---- edges of cost 0

-- an edge of cost 0 that begins in the partition of u
pub record IsFree (edges : List Edge) (u : ℕ) (edge : Edge) : Type 0 where
  pub there : Contains edges edge
  pub begins : is_reached edges u edge.from ≡ true
  pub free : edge.cost ≡ 0

-- the least one by `from`, then by `to`
pub record IsLeastFree (edges : List Edge) (u : ℕ) (edge : Edge) : Type 0 where
  pub among : IsFree edges u edge
  pub least : (other : Edge) → IsFree edges u other → is_edge_before other edge ≡ false

-- each edge that begins in the partition of u has a positive cost
abbrev pub ArePositive : List Edge → ℕ → Type 0
ArePositive edges u = (edge : Edge) → IsFree edges u edge → ⊥

-- ---- the hop law

-- A slot chooses an egress, and was given its octets, or nothing where it is the egress itself.
pub record IsLedTo (net : Network) (egress slot : ℕ) : Type 0 where
  pub chooses : egress_of net slot ≡ Some egress
  pub has : net.given slot ≡ unless_own slot net.announced (Some egress)

-- So does every connected router on any shortest path from a router to the egress.
abbrev pub AllOnTheWayAreLedTo : Network → ℕ → ℕ → Type 0
AllOnTheWayAreLedTo net router egress =
    (end w slot : ℕ) → router_of net egress ≡ Some end → IsOnTheWay net.edges router w end → IsConnected net w slot → IsLedTo net egress slot

-- A connected router with an egress, at a prefix that isn't pending.
pub record HasEgress (net : Network) (router slot egress : ℕ) : Type 0 where
  pub connected : IsConnected net router slot
  pub settled : net.pending ≡ false
  pub chooses : egress_of net slot ≡ Some egress

-- the law: where costs in its partition are positive, all routers on its way have its egress
abbrev pub HopLaw : Type 0
HopLaw = (domain : Domain) (edges : List Edge) (connected : ℕ → Bool) (announced : IpPrefix → Announced) (given : IpPrefix → ℕ → Option (List ℕ))
    (pending : IpPrefix → Bool) (p : IpPrefix) → IsAssignment domain edges connected announced given pending
    → (router slot egress : ℕ) → HasEgress (network_at domain edges connected announced given pending p) router slot egress
    → ArePositive edges router
    → AllOnTheWayAreLedTo (network_at domain edges connected announced given pending p) router egress

-- ---- the answers

-- the path from a connected router to its egress
pub record IsAnswer (net : Network) (router : ℕ) (path : List ℕ) : Type 0 where
  pub slot : ℕ
  pub egress : ℕ
  pub end : ℕ
  pub chosen : HasEgress net router slot egress
  pub seat : router_of net egress ≡ Some end
  pub positive : ArePositive net.edges router
  pub is_path : IsPath net.edges end router path
  pub few : (routers : List ℕ) → HasPartition net.edges router routers → length path ≤ length routers
  pub led : AllOnTheWayAreLedTo net router egress

-- Why there is none. Each cause stands where the ones above it don't.
abbrev pub IsCause : Network → ℕ → IpPrefix → WalkWhy → Type 0
IsCause net router p (why.NotConnected named) = (named ≡ router) × ((slot : ℕ) → IsConnected net router slot → ⊥)
IsCause net router p (why.Pending prefix) = (prefix ≡ p) × ((slot : ℕ) × IsConnected net router slot) × (net.pending ≡ true)
IsCause net router p why.NoRoute = (slot : ℕ) × IsConnected net router slot × (net.pending ≡ false) × (egress_of net slot ≡ None)
IsCause net router p (why.ZeroCost from to) = (slot : ℕ) × (egress : ℕ) × HasEgress net router slot egress
    × IsLeastFree net.edges router (record { from = from; to = to; cost = 0 })

-- an error has its cause; want of memory needs none
abbrev pub HasCause : Network → ℕ → IpPrefix → WalkError → Type 0
HasCause net router p (error.Refused refusal) = IsCause net router p refusal.why
HasCause net router p error.NoMemory = Unit {0}
