-- Parts of a comparison: partitions as they are looked up, and the first difference of one kind.
use Rattle.std.specs.Prelude.{◌≡◌, ◌≢◌, ℕ, ◌<◌, ◌≤◌, ◌↔◌, ◌⊎◌, Bool, true, false, not, min, List, [], AllPairs, Contains, Option, Some, None, IsSome, if◌then◌else◌}
use Rattle.std.specs.BTreeMap as tree
use Rattle.std.specs.BTreeMap.{BTreeMap}
use Rattle.std.specs.List.Sorted.{IsStrictlyIncreasing}
use Rattle.std.specs.Ordering.{nat_cmp}
use Rattle.rcp_base.specs.IpPrefix.{IpPrefix}
use Rattle.rcp_base.specs.Maps.{is_before}
use Rattle.rcp_base.specs.declared.names.Edge.{Edge}
use Rattle.rcp_base.specs.declared.names.Member.{Member}
use Rattle.rcp_model.specs.Costs.{edge_cost, is_reached}
use Rattle.rcp_model.specs.Assigned.{IsAnnounced}
use Rattle.rcp_model.specs.RouteServer.{Announced}
use Rattle.replica_law.specs.Replicas.{slot_of, identifier_of}
use Rattle.replica_law.specs.declared.difference.Difference.{Difference}
use Rattle.replica_law.specs.declared.difference.Difference.TheVariants.{Member as MemberOf, Identity, LinkCost, RouteOf}

-- ---- partitions

-- the least router of the partition of u
pub record IsLeastIn (edges : List Edge) (u l : ℕ) : Type 0 where
  pub inside : is_reached edges u l ≡ true
  pub none_lower : (v : ℕ) → is_reached edges u v ≡ true → l ≤ v

-- an edge begins at the router
abbrev pub IsBeginning : List Edge → ℕ → Type 0
IsBeginning edges u = (edge : Edge) × Contains edges edge × (edge.from ≡ u)

-- an edge from the least router of its partition to each router at which an edge begins
abbrev pub AreSpokes : List Edge → List Edge → Type 0
AreSpokes edges spokes = (edge : Edge) → Contains spokes edge ↔ (IsBeginning edges edge.to × IsLeastIn edges edge.to edge.from × (edge.cost ≡ 0))

-- the spokes of one partition: an edge to each of its routers, by rising ID, but that there may be none to the least one
pub record AreSpokesOf (edges : List Edge) (least : ℕ) (spokes : List Edge) : Type 0 where
  pub rising : AllPairs (λ a b. a.to < b.to) spokes
  pub inside : (edge : Edge) → Contains spokes edge → is_reached edges least edge.to ≡ true
  pub each : (u : ℕ) → is_reached edges least u ≡ true → u ≢ least → (edge : Edge) × Contains spokes edge × (edge.to ≡ u)
  pub whole : spokes ≢ [] → (edge : Edge) × Contains spokes edge × (edge.to ≡ least)

-- the routers of a partition by rising ID
pub record ArePartition (edges : List Edge) (least : ℕ) (routers : List ℕ) : Type 0 where
  pub rising : IsStrictlyIncreasing routers
  pub exact : (u : ℕ) → Contains routers u ↔ (is_reached edges least u ≡ true)

-- ---- seats

-- the slots of routers
abbrev pub AreSlots : List Member → BTreeMap ℕ ℕ → Type 0
AreSlots members slots = (router : ℕ) → tree.get nat_cmp slots router ≡ slot_of members router

-- ---- the first difference of one kind

-- whether two tests answer otherwise
abbrev pub unlike : Bool → Bool → Bool
unlike true b = not b
unlike false b = b

-- the lower one of two routers
abbrev pub lower : Option ℕ → Option ℕ → Option ℕ
lower None b = b
lower (Some a) None = Some a
lower (Some a) (Some b) = Some (min a b)

-- the least of some routers at which two functions differ
pub record IsFirstApart {V : Type 0} (Inside : ℕ → Type 0) (f g : ℕ → V) (router : ℕ) : Type 0 where
  pub inside : Inside router
  pub apart : f router ≢ g router
  pub lower_same : (u : ℕ) → Inside u → u < router → f u ≡ g u

-- the first edge whose least cost differs, of those that begin at some routers
pub record IsFirstLink (first second : List Edge) (routers : List ℕ) (from to : ℕ) : Type 0 where
  pub inside : Contains routers from
  pub apart : edge_cost first from to ≢ edge_cost second from to
  pub lower_same : (u v : ℕ) → Contains routers u → u < from → edge_cost first u v ≡ edge_cost second u v
  pub nearer_same : (v : ℕ) → v < to → edge_cost first from v ≡ edge_cost second from v

-- ---- prefixes

abbrev pub IsAnnouncedIn : (IpPrefix → Announced) → (IpPrefix → Announced) → IpPrefix → Type 0
IsAnnouncedIn first second p = IsAnnounced first p ⊎ IsAnnounced second p

-- in order, each of which something is announced
pub record ArePrefixes (first second : IpPrefix → Announced) (prefixes : List IpPrefix) : Type 0 where
  pub rising : AllPairs (λ p q. is_before p q ≡ true) prefixes
  pub each : (p : IpPrefix) → IsAnnouncedIn first second p → Contains prefixes p

-- the least prefix at which two functions differ
pub record IsFirstPrefix (f g : IpPrefix → Option (List ℕ)) (p : IpPrefix) : Type 0 where
  pub apart : f p ≢ g p
  pub lower_same : (q : IpPrefix) → is_before q p ≡ true → f q ≡ g q

-- the lower one of two prefixes
abbrev pub lower_prefix : Option IpPrefix → Option IpPrefix → Option IpPrefix
lower_prefix None b = b
lower_prefix (Some a) None = Some a
lower_prefix (Some a) (Some b) = if is_before b a then Some b else Some a

-- the first place by router, then by prefix, at which two functions differ, of those of some routers
pub record IsFirstRoute (f g : ℕ → IpPrefix → Option (List ℕ)) (routers : List ℕ) (router : ℕ) (p : IpPrefix) : Type 0 where
  pub inside : Contains routers router
  pub apart : f router p ≢ g router p
  pub lower_same : (u : ℕ) (q : IpPrefix) → Contains routers u → u < router → f u q ≡ g u q
  pub earlier_same : (q : IpPrefix) → is_before q p ≡ true → f router q ≡ g router q

-- ---- the least routers of a roster's partitions

abbrev pub AreLeastOfRoster : List Edge → List Member → List ℕ → Type 0
AreLeastOfRoster edges members leasts =
    (least : ℕ) → Contains leasts least ↔ ((router : ℕ) × IsSome (slot_of members router) × IsLeastIn edges router least)

-- ---- differences of one kind

abbrev pub IsMemberDifference : List Edge → List Edge → ℕ → Difference → Type 0
IsMemberDifference first second least d =
    (u : ℕ) × (d ≡ MemberOf u (is_reached first least u) (is_reached second least u)) × IsFirstApart (λ u. Unit {0}) (is_reached first least) (is_reached second least) u

abbrev pub IsIdentityDifference : List Member → List Member → List ℕ → Difference → Type 0
IsIdentityDifference first second routers d =
    (u : ℕ) × (d ≡ Identity u (identifier_of first u) (identifier_of second u)) × IsFirstApart (Contains routers) (identifier_of first) (identifier_of second) u

abbrev pub IsLinkDifference : List Edge → List Edge → List ℕ → Difference → Type 0
IsLinkDifference first second routers d =
    (u : ℕ) × (v : ℕ) × (d ≡ LinkCost u v (edge_cost first u v) (edge_cost second u v)) × IsFirstLink first second routers u v

abbrev pub IsRouteDifference : (ℕ → IpPrefix → Option (List ℕ)) → (ℕ → IpPrefix → Option (List ℕ)) → List ℕ → Difference → Type 0
IsRouteDifference f g routers d =
    (u : ℕ) × (p : IpPrefix) × (d ≡ RouteOf u p (f u p) (g u p)) × IsFirstRoute f g routers u p

-- the same identifiers, or the same least costs of edges, of some routers
abbrev pub HaveSameIdentifiers : List Member → List Member → List ℕ → Type 0
HaveSameIdentifiers first second routers = (u : ℕ) → Contains routers u → identifier_of first u ≡ identifier_of second u

abbrev pub HaveSameLinks : List Edge → List Edge → List ℕ → Type 0
HaveSameLinks first second routers = (u v : ℕ) → Contains routers u → edge_cost first u v ≡ edge_cost second u v

-- the first difference of networks at these routers: of identifiers, or else of edges
abbrev pub IsNetworkDifference : List Member → List Member → List Edge → List Edge → List ℕ → Difference → Type 0
IsNetworkDifference members others edges back routers d =
    IsIdentityDifference members others routers d ⊎ (HaveSameIdentifiers members others routers × IsLinkDifference edges back routers d)
