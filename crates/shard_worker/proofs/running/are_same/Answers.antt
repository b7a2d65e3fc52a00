use Rattle.shard_worker.proofs.running.are_same.Goals as goal

pub returns : goal.returns
returns c = c.eq.ensures
