use Rattle.platform_laws.proofs.WorkSteps.{slice-shards, no-shards}
use Rattle.platform_laws.proofs.work.a_slice_works_its_shard.Goals as goal

pub returns : goal.returns
returns c = record { some = slice-shards; none = no-shards }
