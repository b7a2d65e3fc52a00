use Rattle.std.proofs.Common.{None, refl, sym, ap, ◌∙◌}
use Rattle.rcp_model.specs.ServerRibs.{Change}
use Rattle.rcs_shard.specs.Shards.{ShardOf, acted, is_connected}
use Rattle.rcs_shard.specs.Joins.{shard_in}
use Rattle.rcs_shard.proofs.ShardLemmas.{change_acts, same_acts, joined_to, joined_withdraw, joined_withdrawn, some_differs, none_same}
use Rattle.rcs_shard.proofs.shard.Shard.withdraw.Goals as goal

pub invariant_of-self : goal.invariant_of-self
invariant_of-self c = (
  joined_to c.self.inside.number c.self.inside.shards c.self.inside.view.value _ _ _ c.self.inside.connected c.withdraw-changed.new.self c.mark.new.self
      refl c.withdraw-changed.ensures.after c.mark.ensures
      (joined_withdrawn c.self.inside.number c.self.inside.shards c.self.inside.view.value c.self.inside.connected c.self.inside.ribs c.self.inside.pending c.self.invariant.0 c.args.slot c.args.p (sym c.withdraw-changed.ensures.changed ∙ c.if-changed.true)),
  c.self.invariant.1,
)

pub invariant_of-self-else-changed : goal.invariant_of-self-else-changed
invariant_of-self-else-changed c = (
  joined_to c.self.inside.number c.self.inside.shards c.self.inside.view.value _ _ _ c.self.inside.connected c.withdraw-changed.new.self c.self.inside.pending
      refl c.withdraw-changed.ensures.after refl
      (joined_withdraw c.self.inside.number c.self.inside.shards c.self.inside.view.value c.self.inside.connected c.self.inside.ribs c.self.inside.pending c.self.invariant.0 c.args.slot c.args.p None),
  c.self.invariant.1,
)

pub returns-then-changed-clause-after : goal.returns-then-changed-clause-after
returns-then-changed-clause-after c =
    (λ i. shard_in c.self.inside.number c.self.inside.shards c.self.inside.view.value c.self.inside.connected (c.withdraw-changed.ensures.after i) (c.mark.ensures i))
    ∙ change_acts c.self.inside.number c.self.inside.shards c.self.inside.view.value c.self.inside.connected c.self.inside.ribs c.self.inside.pending c.args.slot c.args.p None None c.self.inside.pending.opened
    (ap (λ (s : ShardOf). is_connected s c.args.slot) c.self.view_is ∙ c.requires.up) (some_differs _ (sym c.withdraw-changed.ensures.changed ∙ c.if-changed.true))
    ∙ ap (acted (Change c.args.slot c.args.p None)) c.self.view_is

pub returns-else-changed-clause-after : goal.returns-else-changed-clause-after
returns-else-changed-clause-after c =
    (λ i. shard_in c.self.inside.number c.self.inside.shards c.self.inside.view.value c.self.inside.connected (c.withdraw-changed.ensures.after i) c.self.inside.pending)
    ∙ same_acts c.self.inside.number c.self.inside.shards c.self.inside.view.value c.self.inside.connected c.self.inside.ribs c.self.inside.pending c.args.slot c.args.p None None c.self.inside.pending.opened (none_same _ (sym c.withdraw-changed.ensures.changed ∙ c.if-changed.false))
    ∙ ap (acted (Change c.args.slot c.args.p None)) c.self.view_is
