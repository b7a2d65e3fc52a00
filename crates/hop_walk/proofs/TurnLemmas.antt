-- Edges the other way round: the graph that they are, and the costs over it.
use Rattle.std.proofs.Common.{◌≡◌, ℕ, ◌+◌, ◌≤◌, List, map, AllPairs, Contains, IsTrue, Option, Some, None, subst, arith}
use Rattle.rcp_base.specs.declared.names.Edge.{Edge}
use Rattle.rcp_model.specs.Costs.{Walk, stay, step, IsCost, cost}
use Rattle.rcp_model.specs.Edges.{is_edge_before}
use Rattle.rcp_model.specs.Graphs.{IsGraph, routers_in}
use Rattle.std.proofs.lemmas.List.Elements.{All-contains}
use Rattle.rcp_model.proofs.GraphLemmas.{All-from_members, routers_at, routers_within}
use Rattle.rcp_model.proofs.WalkLemmas.{Walk-then, Walk-edge, cost_is, IsCost-unique}
use Rattle.cost_rows.proofs.EndLemmas.{map_member, member_of_map}
use Rattle.hop_walk.specs.Ways.{turned, AreTurned}

-- ---- the edges

pub turned-are : (edges back : List Edge) → ((edge : Edge) → Contains (map turned edges) edge → Contains back edge) → ((edge : Edge) → Contains back edge → Contains (map turned edges) edge) → AreTurned edges back
turned-are edges back kept no_other edge = (
  λ member. let found = member_of_map turned edges edge (no_other edge member) in subst (λ e. Contains edges (turned e)) found.2 found.1,
  λ member. kept edge (map_member turned edges (turned edge) member),
)

pub turned-graph : (edges back : List Edge) → IsGraph edges → AllPairs (λ a b. IsTrue (is_edge_before a b)) back → AreTurned edges back → IsGraph back
turned-graph edges back graph rising are = record {
  rising = rising;
  few = let within = routers_within back (routers_in edges) (λ edge member. let ends = routers_at edges (turned edge) ((are edge).0 member) in (ends.1, ends.0)) in omega (arith, within, graph.few);
  cheap = All-from_members (λ (edge : Edge). edge.cost ≤ 65535) back (λ edge member. All-contains (λ (edge : Edge). edge.cost ≤ 65535) edges (turned edge) graph.cheap ((are edge).0 member));
}

-- ---- the costs

walk-turned : {edges back : List Edge} {u v sum : ℕ} → ((edge : Edge) → Contains edges edge → Contains back (turned edge)) → Walk edges u v sum → Walk back v u sum
walk-turned inside (stay u) = stay u
walk-turned {edges} {back} inside (step edge v sum there rest) =
    let sums : sum + edge.cost ≡ edge.cost + sum = omega arith in
    subst (Walk back v edge.from) sums (Walk-then (walk-turned inside rest) (Walk-edge back (turned edge) (inside edge there)))

pub cost-turned : (edges back : List Edge) → AreTurned edges back → (u v : ℕ) → cost back v u ≡ cost edges u v
cost-turned edges back are u v = IsCost-unique edges u v (cost back v u) (cost edges u v) (by_cost (cost back v u) (cost_is back v u)) (cost_is edges u v) where
  there : (edge : Edge) → Contains edges edge → Contains back (turned edge)
  there edge member = (are (turned edge)).1 member

  home : (edge : Edge) → Contains back edge → Contains edges (turned edge)
  home edge member = (are edge).0 member

  by_cost : (o : Option ℕ) → IsCost back v u o → IsCost edges u v o
  by_cost None none = λ sum walk. none sum (walk-turned there walk)
  by_cost (Some c) least = (walk-turned home least.0, λ sum walk. least.1 sum (walk-turned there walk))
