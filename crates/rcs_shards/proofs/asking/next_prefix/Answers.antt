use Rattle.std.proofs.Common.{subst, rules}
use Rattle.std.specs.Prelude.{ℕ, IsSome, Option}
use Rattle.rcp_base.specs.IpPrefix.{IpPrefix}
use Rattle.rcp_model.specs.Assigned.{IsLeast, IsAfter}
use Rattle.rcs_shard.specs.Shards.{ShardOf, announced_at}
use Rattle.rcs_shards.proofs.LeastLemmas.{least-none, least-turn, least-all}
use Rattle.rcs_shards.proofs.asking.next_prefix.Goals as goal

pub loop-shard-init : goal.loop-shard-init
loop-shard-init c = least-none (λ (s : ShardOf) p. IsAfter c.args.after p × ((slot : ℕ) × IsSome (announced_at s slot p))) c.args.shards.now

pub loop-shard-preserved : goal.loop-shard-preserved
loop-shard-preserved c =
    least-turn (λ (s : ShardOf) p. IsAfter c.args.after p × ((slot : ℕ) × IsSome (announced_at s slot p))) c.args.shards.now c.loop-shard.shard-index c.shard-item.result c.loop-shard-test.true c.shard-item.is
    c.loop-shard.found c.next_prefix.result c.lesser-found.result c.loop-shard.invariant
    (subst (λ (o : Option IpPrefix). IsLeast (λ p. IsAfter o p × ((slot : ℕ) × IsSome (announced_at c.shard-item.result slot p))) c.next_prefix.result) c.again.ensures c.next_prefix.ensures) c.lesser-found.ensures

pub returns : goal.returns
returns c = least-all (λ (s : ShardOf) p. IsAfter c.args.after p × ((slot : ℕ) × IsSome (announced_at s slot p))) c.args.shards.now c.loop-shard.shard-index c.loop-shard.found (search rules) c.loop-shard.invariant
