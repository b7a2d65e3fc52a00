-- What can be asked of a server about routes, and what holds of its answers.
use Rattle.std.specs.Prelude.{◌≡◌, ℕ, Bool, true, false, List, Option, Some, None, IsSome, MatchOption}
use Rattle.std.specs.declared.cmp.Ordering.TheVariants.{Less}
use Rattle.rcp_base.specs.IpPrefix.{IpPrefix, prefix_cmp}
use Rattle.rcp_base.specs.declared.names.Edge.{Edge}
use Rattle.rcp_model.specs.Costs.{IsTwoWay}
use Rattle.rcp_model.specs.Graphs.{IsGraph, AreMembers}
use Rattle.rcp_model.specs.RouteServer.{Domain, Announced, offer}

-- ---- the least prefix of some

-- the least prefix of which this holds, or none where it holds of none
abbrev pub IsLeast : (IpPrefix → Type 0) → Option IpPrefix → Type 0
IsLeast Holds least =
    MatchOption least ((q : IpPrefix) → Holds q → ⊥) (λ p. Holds p × ((q : IpPrefix) → Holds q → prefix_cmp q p ≡ Less → ⊥))

-- a prefix after the given one, or any where none is given
abbrev pub IsAfter : Option IpPrefix → IpPrefix → Type 0
IsAfter None p = Unit {0}
IsAfter (Some q) p = prefix_cmp q p ≡ Less

-- some slot has an announcement of the prefix
abbrev pub IsAnnounced : (IpPrefix → Announced) → IpPrefix → Type 0
IsAnnounced announced p = (slot : ℕ) × IsSome (announced p slot)

-- the least prefix with an announcement after the given one
abbrev pub IsNextAnnounced : (IpPrefix → Announced) → Option IpPrefix → Option IpPrefix → Type 0
IsNextAnnounced announced previous next = IsLeast (λ p. IsAfter previous p × IsAnnounced announced p) next

-- ---- the law

-- Each connected router has what it is offered, or nothing, at each prefix that isn't pending.
abbrev pub IsSettled : Domain → List Edge → (ℕ → Bool) → (IpPrefix → Announced) → (IpPrefix → ℕ → Option (List ℕ)) → (IpPrefix → Bool) → Type 0
IsSettled domain edges connected announced given pending =
    (slot : ℕ) (p : IpPrefix) → connected slot ≡ true → pending p ≡ false → given p slot ≡ offer domain (announced p) edges slot

-- What holds of the answers: routers and identifiers are distinct; the edges are those of a graph, sorted, each once, and each
-- has one in the other direction; what is given is what is offered.
pub record IsAssignment (domain : Domain) (edges : List Edge) (connected : ℕ → Bool) (announced : IpPrefix → Announced) (given : IpPrefix → ℕ → Option (List ℕ)) (pending : IpPrefix → Bool) : Type 0 where
  pub members : AreMembers domain.members
  pub graph : IsGraph edges
  pub two_way : IsTwoWay edges
  pub settled : IsSettled domain edges connected announced given pending
