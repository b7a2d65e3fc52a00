use Rattle.std.proofs.Common.{ℕ, List, subst}
use Rattle.std.specs.Prelude.{IsSome}
use Rattle.rcp_model.specs.Assigned.{IsLeast, IsAfter}
use Rattle.rcs_shard.specs.Shards.{ShardOf, announced_at}
use Rattle.rcs_shards.specs.Least.{HasSome}
use Rattle.rcs_shards.proofs.AskLemmas.{next-announced}
use Rattle.rcs_shards.proofs.shards.Shards.next_prefix.Goals as goal

pub returns : goal.returns
returns c =
    let s = c.self.inside in
    next-announced s.roster s.view.value s.connected s.shards.items c.self.invariant c.args.self.now c.self.view_is c.args.after c.next_prefix.result
    (subst (λ (l : List ShardOf). IsLeast (HasSome (λ (s : ShardOf) p. IsAfter c.args.after p × ((slot : ℕ) × IsSome (announced_at s slot p))) l) c.next_prefix.result) c.deref.ensures.value c.next_prefix.ensures)
