use Rattle.std.proofs.Common.{◌≡◌, ◌≢◌, length, rules}
use Rattle.replica_law.proofs.PartitionLemmas.{partition_alone, partition_ends}
use Rattle.replica_law.proofs.partitions.Partitions.routers.Goals as goal

pub returns-then-is_empty : goal.returns-then-is_empty
returns-then-is_empty c =
    let none : length c.spokes-spokes.result.now ≡ 0 = search rules in
    partition_alone c.args.self.now c.spokes-spokes.result.now c.args.least c.in_ok-from_slice.field-0.items c.spokes-spokes.ensures none c.in_ok-from_slice.ensures.items

pub returns : goal.returns
returns c =
    let some : length c.spokes-spokes.result.now ≢ 0 = search rules in
    partition_ends c.args.self.now c.spokes-spokes.result.now c.args.least c.in_ok-ends.ends.items c.spokes-spokes.ensures some c.in_ok-ends.ensures
