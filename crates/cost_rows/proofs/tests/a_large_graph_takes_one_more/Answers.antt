use Rattle.std.proofs.Common.{◌≡◌, ◌≤◌, List, [], ◌∷◌, length, Contains, sym, refl, subst, inl, inr, arith}
use Rattle.rcp_base.specs.declared.names.Edge.{Edge}
use Rattle.rcp_model.specs.Edges.{include_edge}
use Rattle.rcp_model.specs.Graphs.{routers_in}
use Rattle.rcp_model.proofs.MemberLemmas.{Contains-head, Contains-tail, Contains-none}
use Rattle.rcp_model.proofs.GraphLemmas.{member_of_include, routers_within}
use Rattle.cost_rows.proofs.tests.a_large_graph_takes_one_more.Goals as goal

abbrev IsOneWay : List Edge → Type 0
IsOneWay edges = (edge : Edge) → Contains edges edge → (edge.from ≡ 1) × (edge.to ≡ 2)

one_more : (e : Edge) (edges : List Edge) → e.from ≡ 1 → e.to ≡ 2 → IsOneWay edges → IsOneWay (include_edge e edges)
one_more e edges from to each edge member = elim (member_of_include e edges edge member) [
  | inl same ↦ subst (λ (x : Edge). (x.from ≡ 1) × (x.to ≡ 2)) same (from, to)
  | inr inside ↦ each edge inside
]

two_routers : (edges : List Edge) → IsOneWay edges → length (routers_in edges) ≤ 2
two_routers edges each = routers_within edges (1 ∷ 2 ∷ []) (λ edge member. (
  subst (Contains (1 ∷ 2 ∷ [])) (sym (each edge member).0) (Contains-head 1 (2 ∷ [])),
  subst (Contains (1 ∷ 2 ∷ [])) (sym (each edge member).1) (Contains-tail 1 (2 ∷ []) 2 (Contains-head 2 [])),
))

pub loop-cost-init : goal.loop-cost-init
loop-cost-init g c = λ edge member. absurd (Contains-none edge (subst (λ edges. Contains edges edge) c.in_ok-graph.ensures member))

pub add-requires-clause-few : goal.add-requires-clause-few
add-requires-clause-few g c =
    let few = two_routers (include_edge (record { from = 1; to = 2; cost = c.loop-cost.cost }) c.loop-cost.graph) (one_more (record { from = 1; to = 2; cost = c.loop-cost.cost }) c.loop-cost.graph refl refl c.loop-cost.invariant) in omega arith

pub loop-cost-preserved : goal.loop-cost-preserved
loop-cost-preserved g c = rw c.in_ok-add.ensures.ok (one_more (record { from = 1; to = 2; cost = c.loop-cost.cost }) c.loop-cost.graph refl refl c.loop-cost.invariant)
