-- The shards so far are worked.
use Rattle.std.proofs.Common.{◌≡◌}
use Rattle.rcs_shards.specs.Dirty.{sliced_whole}
use Rattle.rcs_shards.proofs.EachLemmas.{changed_to}
use Rattle.rcs_shards.proofs.workers.work_in_turn.Given as goal

abbrev pub invariant-loop-shard : goal.invariant-loop-shard
invariant-loop-shard l = l.shard-items ≡ changed_to sliced_whole l.shard-index l.initial.shard-items
