-- The event is done to the shards so far.
use Rattle.std.proofs.Common.{◌≡◌}
use Rattle.rcp_model.specs.ServerRibs.{Up}
use Rattle.rcs_shard.specs.Shards.{acted}
use Rattle.rcs_shards.proofs.EachLemmas.{changed_to}
use Rattle.rcs_shards.proofs.events.up_each.Given as goal

abbrev pub invariant-loop-shard : goal.invariant-loop-shard
invariant-loop-shard l = l.shard-items ≡ changed_to (acted (Up l.slot)) l.shard-index l.initial.shard-items
