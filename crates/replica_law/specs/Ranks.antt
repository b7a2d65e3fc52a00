-- Ranks: a graph in which the least cost from one router to each other gives the least router of its partition.
use Rattle.std.specs.Prelude.{◌≡◌, ℕ, ◌↔◌, ◌⊎◌, List, Contains, Some, slice_get}
use Rattle.rcp_base.specs.declared.names.Edge.{Edge}
use Rattle.replica_law.specs.Steps.{IsBeginning, IsLeastIn}

-- an edge of cost 0
abbrev pub free : Edge → Edge
free edge = record { from = edge.from; to = edge.to; cost = 0 }

-- an edge to a name, which costs as much as its place
abbrev pub IsShortcut : List ℕ → ℕ → Edge → Type 0
IsShortcut names root edge = (edge.from ≡ root) × (slice_get names edge.cost ≡ Some edge.to)

-- an edge of the network at no cost
abbrev pub IsFreed : List Edge → Edge → Type 0
IsFreed edges edge = (original : Edge) × Contains edges original × (edge ≡ free original)

-- the edges of the network at no cost, and a shortcut from the root to each name
abbrev pub AreRanked : List Edge → List ℕ → ℕ → List Edge → Type 0
AreRanked edges names root found = (edge : Edge) → Contains found edge ↔ (IsFreed edges edge ⊎ IsShortcut names root edge)

-- the place among the names of the least router of a partition
pub record IsRank (edges : List Edge) (names : List ℕ) (u rank : ℕ) : Type 0 where
  pub least : ℕ
  pub place : slice_get names rank ≡ Some least
  pub is_least : IsLeastIn edges u least

-- the ranks of the routers at which an edge begins, and of no others
pub record AreRanks (edges : List Edge) (names : List ℕ) (ranks : List (ℕ × ℕ)) : Type 0 where
  pub right : (u rank : ℕ) → Contains ranks (u, rank) → IsBeginning edges u × IsRank edges names u rank
  pub each : (u : ℕ) → IsBeginning edges u → (rank : ℕ) × Contains ranks (u, rank)
