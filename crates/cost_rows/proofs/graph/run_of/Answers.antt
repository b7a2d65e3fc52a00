use Rattle.std.proofs.Common.{◌≡◌, ◌==◌, nat_lt, true, false, drop, arith, rules, tests}
use Rattle.std.specs.List.Sorted.{IsPartitionPoint}
use Rattle.std.proofs.lemmas.List.Sorted.{IsPartitionPoint-from_clause}
use Rattle.cost_rows.proofs.PlaceLemmas.{starts_partition, run_partitions, run_is}
use Rattle.cost_rows.proofs.graph.run_of.Goals as goal

pub returns-clause-within : goal.returns-clause-within
returns-clause-within c =
    let bound = c.partition_point-count.ensures.bound in
    let len = c.split_at.ensures.back_len in
    omega arith

pub returns-clause-run : goal.returns-clause-run
returns-clause-run c =
    let below : IsPartitionPoint (λ edge. nat_lt edge.from c.args.router ≡ true) (λ edge. nat_lt edge.from c.args.router ≡ false) c.args.edges.now c.partition_point-start.result =
    IsPartitionPoint-from_clause (λ edge. nat_lt edge.from c.args.router) c.args.edges.now c.partition_point-start.result c.partition_point-start.ensures.partitioned
    (starts_partition c.args.edges.now c.requires c.args.router) (λ a r f' k. search (rules, tests)) in
    let rest = c.split_at.ensures.back in
    let run : IsPartitionPoint (λ edge. (edge.from == c.args.router) ≡ true) (λ edge. (edge.from == c.args.router) ≡ false) (drop c.partition_point-start.result c.args.edges.now) c.partition_point-count.result =
    rw rest at (IsPartitionPoint-from_clause (λ edge. edge.from == c.args.router) c.split_at.result.1.now c.partition_point-count.result c.partition_point-count.ensures.partitioned
    (rw rest (run_partitions c.args.edges.now c.requires c.args.router c.partition_point-start.result below.1)) (λ a r f' k. search (rules, tests))) in
    run_is c.args.edges.now c.args.router c.partition_point-start.result c.partition_point-count.result c.partition_point-start.ensures.bound
    (rw rest at c.partition_point-count.ensures.bound) below.0 run.0 run.1
