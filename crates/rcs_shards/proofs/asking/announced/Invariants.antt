-- The count of the shards so far.
use Rattle.std.proofs.Common.{◌≡◌, take}
use Rattle.std.specs.Prelude.{min}
use Rattle.feed_meaning.specs.OutRecords.{MOST}
use Rattle.platform_laws.specs.Asked.{announced_count}
use Rattle.rcs_shards.specs.Dirty.{ribs_in}
use Rattle.rcs_shards.proofs.asking.announced.Given as goal

abbrev pub invariant-loop-shard : goal.invariant-loop-shard
invariant-loop-shard l = l.count ≡ min (announced_count (ribs_in (take l.shard-index l.shards))) MOST
