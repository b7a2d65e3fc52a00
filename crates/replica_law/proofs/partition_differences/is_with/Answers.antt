use Rattle.std.proofs.Common.{◌∙◌}
use Rattle.replica_law.proofs.PartitionLemmas.{with-least}
use Rattle.replica_law.proofs.partition_differences.is_with.Goals as goal

pub returns : goal.returns
returns c =
    c.eq.ensures
    ∙ with-least c.args.partitions.now c.least.ensures.two_way c.args.least c.args.router c.least-2.result c.least.result c.least-2.ensures.least c.least.ensures.least
