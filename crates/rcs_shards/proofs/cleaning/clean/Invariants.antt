-- The shards so far are clean.
use Rattle.std.proofs.Common.{◌≡◌}
use Rattle.rcs_shards.specs.Dirty.{cleaned}
use Rattle.rcs_shards.proofs.EachLemmas.{changed_to}
use Rattle.rcs_shards.proofs.cleaning.clean.Given as goal

abbrev pub invariant-loop-shard : goal.invariant-loop-shard
invariant-loop-shard l = l.shard-items ≡ changed_to cleaned l.shard-index l.initial.shard-items
