use Rattle.std.proofs.Common.{sym, subst}
use Rattle.shard_worker.specs.Workers.{IsIdle}
use Rattle.shard_worker.proofs.KeptLemmas.{idle_new}
use Rattle.worker_cases.proofs.tests.bench.idle.Goals as goal

pub returns : goal.returns
returns c = subst IsIdle (sym c.in_ok-shard.ensures) (idle_new _ _ _ _)
