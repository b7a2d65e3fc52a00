use Rattle.std.proofs.Common.{List, subst}
use Rattle.std.specs.Prelude.{IsSome}
use Rattle.rcp_model.specs.Assigned.{IsLeast, IsAfter}
use Rattle.rcs_shard.specs.Shards.{ShardOf, given_at}
use Rattle.rcs_shards.specs.Least.{HasSome}
use Rattle.rcs_shards.proofs.AskLemmas.{next-given}
use Rattle.rcs_shards.proofs.shards.Shards.next_entry.Goals as goal

pub returns : goal.returns
returns c =
    let s = c.self.inside in
    next-given s.roster s.view.value s.connected s.shards.items c.self.invariant c.args.self.now c.self.view_is c.args.slot c.args.after c.next_entry.result
    (subst (λ (l : List ShardOf). IsLeast (HasSome (λ (s : ShardOf) p. IsAfter c.args.after p × IsSome (given_at s c.args.slot p)) l) c.next_entry.result) c.deref.ensures.value c.next_entry.ensures)
