use Rattle.std.proofs.Common.{◌≡◌, nat_lt, Some, None, slice_get, true, false, cond, refl, sym, ◌∙◌, ap, subst, rules, tests}
use Rattle.std.specs.List.Sorted.{IsPartitionPoint}
use Rattle.std.proofs.lemmas.List.Sorted.{IsPartitionPoint-from_clause}
use Rattle.std.proofs.lemmas.Option.{slice_get_past, slice_get_read}
use Rattle.rcp_model.specs.Costs.{edge_cost}
use Rattle.rcp_model.specs.Graphs.{edges_from}
use Rattle.replica_law.proofs.LinkLemmas.{cost_from_run, cost_of_end, link_at, run_rises, run_begins, run_ends, ends_partition}
use Rattle.replica_law.proofs.partition_differences.least_link.Goals as goal
use Rattle.replica_law.proofs.partition_differences.least_link.Goals.{After-partition_point-place}

-- the cost is that of the edge at the place
at_place : (c : After-partition_point-place) → edge_cost c.args.graph.now c.args.from c.args.to ≡ cost_of_end c.args.to (slice_get c.edges_from-edges.result.now c.partition_point-place.result)
at_place c =
    let run = edges_from c.args.from c.args.graph.now in
    let is : c.edges_from-edges.result.now ≡ run = c.edges_from-edges.ensures.edges in
    let rising = c.edges_from-edges.ensures.kept.rising in
    let ends = run_ends c.args.graph.now c.args.from rising in
    let point : IsPartitionPoint (λ (edge : _). nat_lt edge.to c.args.to ≡ true) (λ (edge : _). nat_lt edge.to c.args.to ≡ false) c.edges_from-edges.result.now c.partition_point-place.result =
    IsPartitionPoint-from_clause (λ (edge : _). nat_lt edge.to c.args.to) c.edges_from-edges.result.now c.partition_point-place.result c.partition_point-place.ensures.partitioned
    (rw is (ends_partition run ends c.args.to)) (λ a r f' k. search (rules, tests)) in
    sym (cost_from_run c.args.graph.now c.args.from c.args.to)
    ∙ rw (sym is) (link_at c.edges_from-edges.result.now c.args.from c.args.to c.partition_point-place.result (rw is (run_rises c.args.graph.now c.args.from rising)) (rw is (run_begins c.args.graph.now c.args.from)) point.0 point.1)

pub returns-in_err-edge : goal.returns-in_err-edge
returns-in_err-edge c =
    c.from_residual.ensures ∙ sym (at_place (goal.at.returns-in_err-edge c).After-partition_point-place
    ∙ ap (cost_of_end c.args.to) (slice_get_past c.edges_from-edges.result.now c.partition_point-place.result c.in_err-edge.ensures.lookup.3))

pub returns-then-eq : goal.returns-then-eq
returns-then-eq c =
    sym (at_place (goal.at.returns-then-eq c).After-partition_point-place
    ∙ ap (cost_of_end c.args.to) (slice_get_read c.edges_from-edges.result.now _ c.partition_point-place.result c.in_ok-edge.edge.now refl c.in_ok-edge.ensures.lookup.3.0 c.in_ok-edge.ensures.lookup.1)
    ∙ ap (λ t. cond t (Some c.in_ok-edge.edge.now.cost) None) (sym c.eq.ensures ∙ c.if-eq.true))

pub returns-else-eq : goal.returns-else-eq
returns-else-eq c =
    sym (at_place (goal.at.returns-else-eq c).After-partition_point-place
    ∙ ap (cost_of_end c.args.to) (slice_get_read c.edges_from-edges.result.now _ c.partition_point-place.result c.in_ok-edge.edge.now refl c.in_ok-edge.ensures.lookup.3.0 c.in_ok-edge.ensures.lookup.1)
    ∙ ap (λ t. cond t (Some c.in_ok-edge.edge.now.cost) None) (sym c.eq.ensures ∙ c.if-eq.false))
