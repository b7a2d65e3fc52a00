use Rattle.std.proofs.Common.{length, ap, arith}
use Rattle.rcp_model.specs.Edges.{include_edge}
use Rattle.rcp_model.proofs.GraphLemmas.{length-include, length-routers}
use Rattle.shard_cases.proofs.tests.graph_of.Goals as goal

pub add-requires-clause-few : goal.add-requires-clause-few
add-requires-clause-few c =
    omega (arith, length-include c.edge.result c.loop-link.graph, length-routers (include_edge c.edge.result c.loop-link.graph), c.loop-link.invariant)

pub loop-link-preserved : goal.loop-link-preserved
loop-link-preserved c = omega (arith, length-include c.edge.result c.loop-link.graph, ap length c.in_ok-add.ensures.ok, c.loop-link.invariant)
