-- What is left to be worked leads to the same.
use Rattle.std.proofs.Common.{◌≡◌, ◌-◌}
use Rattle.rcs_shards.specs.Dirty.{sliced}
use Rattle.rcs_shards.proofs.work.work_shard.Given as goal

abbrev pub invariant-loop : goal.invariant-loop
invariant-loop l = sliced (l.most - l.counter) l.shard ≡ sliced l.most l.initial.shard
