use Rattle.std.proofs.Common.{◌≡◌, ◌≢◌, ◌<◌, true, false, ◌==◌, ◌&&◌, length, get_or, refl, sym, ◌∙◌, rules, tests, arith}
use Rattle.std.proofs.lemmas.Bool.{false≢true, eq-eqb}
use Rattle.std.proofs.lemmas.List.{get_or_default}
use Rattle.std.proofs.lemmas.List.Sorted.{IsPartitionPoint-from_clause}
use Rattle.std.specs.List.Sorted.{IsPartitionPoint}
use Rattle.rcp_model.specs.Edges.{is_edge_before}
use Rattle.rcp_base.specs.declared.names.Edge.{Edge}
use Rattle.cost_rows.proofs.PlaceLemmas.{before_partitions, absent_at, include_new}
use Rattle.cost_rows.proofs.graph.find.Goals as goal
use Rattle.cost_rows.proofs.graph.find.Goals.{else-place-edges-via-then-place-edges+else-eq, else-place-edges-via-else-place-edges}

-- `==` of an edge and itself
equal-itself : (a : Edge) → (a.from == a.from && (a.to == a.to && a.cost == a.cost)) ≡ true
equal-itself a = rw (eq-eqb a.from a.from refl, eq-eqb a.to a.to refl, eq-eqb a.cost a.cost refl) refl

point : (c : goal.Joined-else-place-edges) → IsPartitionPoint (λ other. is_edge_before other c.args.edge.now ≡ true) (λ other. is_edge_before other c.args.edge.now ≡ false) c.args.edges.now c.partition_point-place.result
point c = IsPartitionPoint-from_clause (λ other. is_edge_before other c.args.edge.now) c.args.edges.now c.partition_point-place.result c.partition_point-place.ensures.partitioned
    (before_partitions c.args.edges.now c.requires c.args.edge.now) (λ a r f' k. search (rules, tests))

other : (c : goal.Joined-else-place-edges) → c.partition_point-place.result < length c.args.edges.now → get_or c.args.edges.now c.partition_point-place.result c.args.edge.now ≢ c.args.edge.now
other c within same = elim c.else-place-edges.branch [
  | else-place-edges-via-then-place-edges+else-eq w ↦
      let found : w.index-edges-place.result ≡ c.args.edge.now =
      w.index-edges-place.is ∙ get_or_default c.args.edges.now c.partition_point-place.result w.index-edges-place.result c.args.edge.now within ∙ same in
      false≢true (sym w.if-eq.false ∙ w.eq.ensures ∙ rw found (equal-itself c.args.edge.now))
  | else-place-edges-via-else-place-edges w ↦ absurd (omega arith)
]

pub returns-clause-absent : goal.returns-clause-absent
returns-clause-absent c = absent_at c.args.edge.now c.partition_point-place.result c.args.edges.now c.requires (point c).0 (point c).1 (other c)

pub returns-clause-place : goal.returns-clause-place
returns-clause-place c = (
  c.partition_point-place.ensures.bound,
  include_new c.args.edge.now c.partition_point-place.result c.args.edges.now c.partition_point-place.ensures.bound
      (absent_at c.args.edge.now c.partition_point-place.result c.args.edges.now c.requires (point c).0 (point c).1 (other c)) (point c).0 (point c).1,
)
