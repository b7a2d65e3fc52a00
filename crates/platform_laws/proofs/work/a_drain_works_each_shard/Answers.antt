use Rattle.platform_laws.proofs.WorkSteps.{drain-shards}
use Rattle.platform_laws.proofs.work.a_drain_works_each_shard.Goals as goal

pub returns : goal.returns
returns c = drain-shards
