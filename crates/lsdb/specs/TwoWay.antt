-- What an edge of the link state is, by the links of the routers at its ends (RFC 2328 sections 12.4.1.1 and 16.1).
use Rattle.std.specs.Prelude.{◌≡◌, ℕ, ◌≤◌, Contains, Some, IfSome}
use Rattle.rcp_base.specs.declared.names.Edge.{Edge}
use Rattle.rcp_model.specs.LinkState.{Kept, LinkState, kept_of}
use Rattle.rcp_model.specs.Edges.{POINT_TO_POINT}
use Rattle.lsdb.specs.Databases.{IsOnce}

-- each router has one instance, which is its own
pub record IsMap (state : LinkState) : Type 0 where
  pub once : IsOnce state.routers
  pub own : (router : ℕ) → IfSome (kept_of router state) (λ kept. kept.lsa.key ≡ router)

-- the instance of the one router lists the other by a point-to-point link with this metric
abbrev pub Lists : LinkState → ℕ → ℕ → ℕ → Type 0
Lists state from to metric = (kept : Kept) × (kept_of from state ≡ Some kept) × Contains kept.lsa.content (record { id = to; kind = POINT_TO_POINT; metric = metric })

-- each end lists the other, and the cost is the least metric of the first
pub record IsTwoWay (state : LinkState) (edge : Edge) : Type 0 where
  pub listed : Lists state edge.from edge.to edge.cost
  pub least : (metric : ℕ) → Lists state edge.from edge.to metric → edge.cost ≤ metric
  pub back : (metric : ℕ) × Lists state edge.to edge.from metric
