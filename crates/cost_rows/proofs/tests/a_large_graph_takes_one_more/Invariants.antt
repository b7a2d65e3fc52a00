use Rattle.std.proofs.Common.{◌≡◌, Contains}
use Rattle.rcp_base.specs.declared.names.Edge.{Edge}
use Rattle.cost_rows.proofs.tests.a_large_graph_takes_one_more.Given as goal

abbrev pub invariant-loop-cost : goal.invariant-loop-cost
invariant-loop-cost g l = (edge : Edge) → Contains l.graph edge → (edge.from ≡ 1) × (edge.to ≡ 2)
