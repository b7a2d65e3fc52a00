-- The least of the shards so far.
use Rattle.std.specs.Prelude.{IsSome}
use Rattle.rcp_model.specs.Assigned.{IsLeast, IsAfter}
use Rattle.rcs_shard.specs.Shards.{ShardOf, given_at}
use Rattle.rcs_shards.proofs.LeastLemmas.{HasBelow}
use Rattle.rcs_shards.proofs.asking.next_entry.Given as goal

abbrev pub invariant-loop-shard : goal.invariant-loop-shard
invariant-loop-shard l = IsLeast (HasBelow (λ (s : ShardOf) p. IsAfter l.after p × IsSome (given_at s l.slot p)) l.shards l.shard-index) l.found
