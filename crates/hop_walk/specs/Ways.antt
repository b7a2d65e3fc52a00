-- Costs to one router, as they are looked up on the way to it.
use Rattle.std.specs.Prelude.{◌≡◌, ℕ, ◌↔◌, false, List, Contains, IsSome}
use Rattle.rcp_base.specs.Maps.{get_at}
use Rattle.rcp_base.specs.declared.names.Edge.{Edge}
use Rattle.rcp_model.specs.Costs.{cost}
use Rattle.rcp_model.specs.Edges.{is_edge_before}
use Rattle.rcp_model.specs.LinkState.{same_number}

-- an edge from its end to its beginning
abbrev pub turned : Edge → Edge
turned edge = record { from = edge.to; to = edge.from; cost = edge.cost }

-- the edges of the one are those of the other, each the other way round
abbrev pub AreTurned : List Edge → List Edge → Type 0
AreTurned edges back = (edge : Edge) → Contains back edge ↔ Contains edges (turned edge)

-- the costs from each router to one
abbrev pub AreCostsTo : List Edge → ℕ → List (ℕ × ℕ) → Type 0
AreCostsTo edges v row = (u : ℕ) → get_at same_number u row ≡ cost edges u v

-- what contracts see of the ways to a router
pub record WaysOf : Type 0 where
  pub edges : List Edge
  pub end : ℕ

-- an edge of cost 0 that begins at a router from which v is reached
pub record IsFreeTo (edges : List Edge) (v : ℕ) (edge : Edge) : Type 0 where
  pub there : Contains edges edge
  pub begins : IsSome (cost edges edge.from v)
  pub free : edge.cost ≡ 0

pub record IsLeastFreeTo (edges : List Edge) (v : ℕ) (edge : Edge) : Type 0 where
  pub among : IsFreeTo edges v edge
  pub least : (other : Edge) → IsFreeTo edges v other → is_edge_before other edge ≡ false
