-- Engines of costs: what they keep, and that it is over a graph.
use Rattle.std.specs.Prelude.{◌≡◌, ℕ, Bool, false, List, [], ◌≤◌, length, slice_index_or, All, Contains, Option, Some, None, if◌then◌else◌}
use Rattle.std.specs.List.Sorted.{IsStrictlyIncreasing}
use Rattle.rcp_base.specs.declared.names.Member.{Member}
use Rattle.rcp_base.specs.declared.names.Edge.{Edge}
use Rattle.rcp_model.specs.RouteServer.{router_at}
use Rattle.cost_rows.specs.Engines.{cost_from}
use Rattle.cost_rows.specs.Search.{found_at, AreNames, IsFound}

-- what contracts see of an engine: by slot the costs found from the member's router, each at the place of the router that it leads to
pub record EngineOf : Type 0 where
  pub members : List Member
  pub names : List ℕ
  pub rows : List (List (Option ℕ))
  pub is_spent : Bool

-- the costs found from a slot
abbrev pub row_at : List (List (Option ℕ)) → ℕ → List (Option ℕ)
row_at rows slot = slice_index_or rows slot []

abbrev pub costs_by : List ℕ → List (List (Option ℕ)) → ℕ → ℕ → Option ℕ
costs_by names rows slot router = found_at names (row_at rows slot) router

-- the cost from a slot to a router; a spent engine has none
abbrev pub engine_costs : EngineOf → ℕ → ℕ → Option ℕ
engine_costs engine slot router = if engine.is_spent then None else costs_by engine.names engine.rows slot router

-- rows over edges: from each member the least sums over all walks
pub record AreRows (edges : List Edge) (names : List ℕ) (members : List Member) (rows : List (List (Option ℕ))) : Type 0 where
  pub count : length rows ≡ length members
  pub named : (slot root : ℕ) → router_at members slot ≡ Some root → Contains names root
  pub exact : (slot root : ℕ) → router_at members slot ≡ Some root → IsFound edges names root (row_at rows slot)

-- an engine over edges: it isn't spent, and its costs are those over the edges
pub record IsEngineOver (engine : EngineOf) (edges : List Edge) : Type 0 where
  pub unspent : engine.is_spent ≡ false
  pub exact : (slot router : ℕ) → engine_costs engine slot router ≡ cost_from edges engine.members slot router
  pub named : AreNames edges engine.names
  pub rows : AreRows edges engine.names engine.members engine.rows

-- what each table keeps: few members, names in order, and unless it is spent a cost or none at the place of each name
pub record IsTable (members : List Member) (names : List ℕ) (rows : List (List (Option ℕ))) (is_spent : Bool) : Type 0 where
  pub few : length members ≤ 512
  pub rising : IsStrictlyIncreasing names
  pub places : is_spent ≡ false → All (λ row. length row ≡ length names) rows
