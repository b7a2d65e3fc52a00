-- A view that follows its graph edge by edge: the engine beside it, and the rows of the slots whose costs changed.
use Rattle.std.specs.Prelude.{◌≡◌, ℕ, ◌<◌, ◌≤◌, List, Contains, Option}
use Rattle.rcp_base.specs.Maps.{get_at}
use Rattle.rcp_base.specs.declared.names.Edge.{Edge}
use Rattle.rcp_model.specs.LinkState.{same_number}
use Rattle.rcp_model.specs.Graphs.{highest_cost}
use Rattle.cost_rows.specs.Views.{ViewOf}
use Rattle.spf_incr.specs.Tables.{EngineOf, IsEngineOver}

-- the engine of a view: over its edges, from its members
pub record IsEngineOf (engine : EngineOf) (view : ViewOf) : Type 0 where
  pub over : IsEngineOver engine view.edges
  pub members : engine.members ≡ view.members

-- rows of costs for the slots of some pairs
pub record AreRowsOf (costs : ℕ → ℕ → Option ℕ) (pairs : List (ℕ × ℕ)) (rows : List (ℕ × List (ℕ × ℕ))) : Type 0 where
  pub each : (slot router : ℕ) → Contains pairs (slot, router) → (row : List (ℕ × ℕ)) × Contains rows (slot, row)
  pub listed : (slot : ℕ) (row : List (ℕ × ℕ)) → Contains rows (slot, row) → (router : ℕ) × Contains pairs (slot, router)
  pub exact : (slot : ℕ) (row : List (ℕ × ℕ)) → Contains rows (slot, row) → (router : ℕ) → get_at same_number router row ≡ costs slot router

-- rows of costs for the slots below a number
pub record AreAllRows (costs : ℕ → ℕ → Option ℕ) (count : ℕ) (rows : List (ℕ × List (ℕ × ℕ))) : Type 0 where
  pub each : (slot : ℕ) → slot < count → (row : List (ℕ × ℕ)) × Contains rows (slot, row)
  pub seated : (slot : ℕ) (row : List (ℕ × ℕ)) → Contains rows (slot, row) → slot < count
  pub exact : (slot : ℕ) (row : List (ℕ × ℕ)) → Contains rows (slot, row) → (router : ℕ) → get_at same_number router row ≡ costs slot router

-- an edge of a graph between the same routers and in the same direction as another
pub record IsBeside (graph : List Edge) (edge other : Edge) : Type 0 where
  pub there : Contains graph other
  pub from : other.from ≡ edge.from
  pub to : other.to ≡ edge.to
  pub cheap : other.cost ≤ highest_cost
