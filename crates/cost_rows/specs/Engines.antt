-- Engines of costs: the graph before one edge came or went, and the pairs whose cost changed.
use Rattle.std.specs.Prelude.{◌≢◌, ℕ, Bool, true, false, ◌&&◌, ◌||◌, ◌==◌, ◌↔◌, List, AllPairs, Contains, IsTrue, Option, Some, nat_lt}
use Rattle.rcp_base.specs.declared.names.Member.{Member}
use Rattle.rcp_base.specs.declared.names.Edge.{Edge}
use Rattle.rcp_model.specs.Edges.{include_edge}
use Rattle.rcp_model.specs.Graphs.{exclude_edge}
use Rattle.rcp_model.specs.RouteServer.{router_at, cost_between}

-- the edges before one was added or removed, by those after it
abbrev pub graph_before : Edge → Bool → List Edge → List Edge
graph_before edge true after = exclude_edge edge after
graph_before edge false after = include_edge edge after

-- the interior cost from a slot to a router
unfoldable pub cost_from : List Edge → List Member → ℕ → ℕ → Option ℕ
cost_from edges members slot router = cost_between edges (router_at members slot) (Some router)

-- pairs of slot and router by slot, then by router
abbrev pub is_pair_before : ℕ × ℕ → ℕ × ℕ → Bool
is_pair_before a b = nat_lt a.0 b.0 || a.0 == b.0 && nat_lt a.1 b.1

-- the pairs whose cost isn't the same before and after, in order, each once
pub record AreChanges (before after : ℕ → ℕ → Option ℕ) (pairs : List (ℕ × ℕ)) : Type 0 where
  pub rising : AllPairs (λ a b. IsTrue (is_pair_before a b)) pairs
  pub exact : (slot router : ℕ) → Contains pairs (slot, router) ↔ (before slot router ≢ after slot router)
