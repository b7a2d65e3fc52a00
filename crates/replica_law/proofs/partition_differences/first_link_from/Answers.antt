use Rattle.std.proofs.Common.{map, not, ◌∙◌, ap}
use Rattle.rcp_base.specs.declared.names.Edge.{Edge}
use Rattle.rcp_model.specs.Costs.{edge_cost}
use Rattle.rcp_model.specs.Graphs.{edges_from}
use Rattle.rcp_model.specs.RouteServer.{same_cost}
use Rattle.replica_law.proofs.ListLemmas.{cost_test, first_of_two}
use Rattle.replica_law.proofs.LinkLemmas.{ends-rise, link_covered}
use Rattle.replica_law.proofs.partition_differences.first_link_from.Goals as goal

pub returns : goal.returns
returns c =
    let f = edge_cost c.args.first.now c.args.from in
    let g = edge_cost c.args.second.now c.args.from in
    rw c.lower.ensures (first_of_two (λ v. not (same_cost (f v) (g v))) f g (map (λ (edge : Edge). edge.to) (edges_from c.args.from c.args.first.now)) (map (λ (edge : Edge). edge.to) (edges_from c.args.from c.args.second.now))
    c.first_end-here.result c.first_end-there.result (cost_test f g)
    (ends-rise c.args.first.now c.args.from c.edges_from.ensures.kept.rising) (ends-rise c.args.second.now c.args.from c.edges_from-2.ensures.kept.rising)
    (link_covered c.args.first.now c.args.second.now c.args.from)
    (rw c.edges_from.ensures.edges at c.first_end-here.ensures) (rw c.edges_from-2.ensures.edges at c.first_end-there.ensures))
