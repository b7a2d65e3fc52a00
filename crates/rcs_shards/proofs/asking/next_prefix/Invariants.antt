-- The least of the shards so far.
use Rattle.std.specs.Prelude.{ℕ, IsSome}
use Rattle.rcp_model.specs.Assigned.{IsLeast, IsAfter}
use Rattle.rcs_shard.specs.Shards.{ShardOf, announced_at}
use Rattle.rcs_shards.proofs.LeastLemmas.{HasBelow}
use Rattle.rcs_shards.proofs.asking.next_prefix.Given as goal

abbrev pub invariant-loop-shard : goal.invariant-loop-shard
invariant-loop-shard l = IsLeast (HasBelow (λ (s : ShardOf) p. IsAfter l.after p × ((slot : ℕ) × IsSome (announced_at s slot p))) l.shards l.shard-index) l.found
