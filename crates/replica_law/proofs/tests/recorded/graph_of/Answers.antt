use Rattle.std.proofs.Common.{◌≡◌, ◌+◌, ◌≤◌, List, [], length, Contains, refl, sym, ap, subst, ◌∙◌, inl, inr, arith}
use Rattle.rcp_base.specs.declared.names.Edge.{Edge}
use Rattle.rcp_model.specs.Costs.{IsTwoWay}
use Rattle.rcp_model.specs.Edges.{include_edge}
use Rattle.rcp_model.proofs.MemberLemmas.{Contains-none}
use Rattle.rcp_model.proofs.GraphLemmas.{length-include, length-routers, member_of_include, include-member}
use Rattle.replica_law.proofs.tests.recorded.graph_of.Goals as goal

-- an edge and the one back
two_way_more : (there back : Edge) (edges : List Edge) → IsTwoWay edges → there.from ≡ back.to → there.to ≡ back.from → IsTwoWay (include_edge back (include_edge there edges))
two_way_more there back edges both from to edge member = elim (member_of_include back (include_edge there edges) edge member) [
  | inl same ↦
      (there, include-member back (include_edge there edges) there (inr (include-member there edges there (inl refl))), from ∙ ap (λ (e : Edge). e.to) same, to ∙ ap (λ (e : Edge). e.from) same)
  | inr rest ↦ elim (member_of_include there edges edge rest) [
    | inl same ↦ (back, include-member back (include_edge there edges) back (inl refl), sym to ∙ ap (λ (e : Edge). e.to) same, sym from ∙ ap (λ (e : Edge). e.from) same)
    | inr inside ↦
        let home = both edge inside in
        (home.0, include-member back (include_edge there edges) home.0 (inr (include-member there edges home.0 (inr home.1))), home.2, home.3)
  ]
]

pub loop-from-init : goal.loop-from-init
loop-from-init c = (omega (arith, ap length c.in_ok-graph.ensures), λ edge member. absurd (Contains-none edge (subst (λ (l : List Edge). Contains l edge) c.in_ok-graph.ensures member)))

pub add-requires-clause-few : goal.add-requires-clause-few
add-requires-clause-few c =
    let before = c.loop-from.invariant.0 in
    omega (arith, length-include c.edge.result c.loop-from.graph, length-routers (include_edge c.edge.result c.loop-from.graph), before)

pub add-requires-in-loop-from-clause-few : goal.add-requires-in-loop-from-clause-few
add-requires-in-loop-from-clause-few c =
    let before = c.loop-from.invariant.0 in
    let first = ap length c.in_ok-add.ensures.ok in
    omega (arith, length-include c.edge.result c.loop-from.graph, length-include c.edge-in-loop-from.result c.add.new.self, length-routers (include_edge c.edge-in-loop-from.result c.add.new.self), before, first)

pub loop-from-preserved : goal.loop-from-preserved
loop-from-preserved c = (
  let before = c.loop-from.invariant.0 in
      let first = ap length c.in_ok-add.ensures.ok in
      let second = ap length c.in_ok-add-2.ensures.ok in
      omega (arith, length-include c.edge.result c.loop-from.graph, length-include c.edge-in-loop-from.result c.add.new.self, before, first, second),
  rw (c.in_ok-add-2.ensures.ok, c.in_ok-add.ensures.ok) (two_way_more c.edge.result c.edge-in-loop-from.result c.loop-from.graph c.loop-from.invariant.1
      (c.edge.ensures.ends.0 ∙ sym c.edge-in-loop-from.ensures.ends.1) (c.edge.ensures.ends.1 ∙ sym c.edge-in-loop-from.ensures.ends.0)),
)
