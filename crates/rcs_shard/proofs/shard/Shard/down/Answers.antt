use Rattle.std.proofs.Common.{ap, ◌∙◌}
use Rattle.rcp_model.specs.ServerRibs.{Down}
use Rattle.adj_ribs.specs.Bases.{after_clear}
use Rattle.rcs_shard.specs.Shards.{acted}
use Rattle.rcs_shard.specs.Joins.{shard_in}
use Rattle.rcs_shard.proofs.ShardLemmas.{down_acts, joined_to, joined_down}
use Rattle.rcs_shard.proofs.shard.Shard.down.Goals as goal

pub invariant_of-self : goal.invariant_of-self
invariant_of-self c = (
  joined_to c.self.inside.number c.self.inside.shards c.self.inside.view.value _ _ _ c.remove.new.self c.clear.new.self c.mark_of.new.pending
      c.remove.ensures (c.clear.ensures ∙ ap (after_clear c.args.slot) c.drop_all.ensures) c.mark_of.ensures
      (joined_down c.self.inside.number c.self.inside.shards c.self.inside.view.value c.self.inside.connected c.self.inside.ribs c.self.inside.pending c.self.invariant.0 c.args.slot),
  c.self.invariant.1,
)

pub returns : goal.returns
returns c =
    (λ i. shard_in c.self.inside.number c.self.inside.shards c.self.inside.view.value (c.remove.ensures i) ((c.clear.ensures ∙ ap (after_clear c.args.slot) c.drop_all.ensures) i) (c.mark_of.ensures i))
    ∙ down_acts c.self.inside.number c.self.inside.shards c.self.inside.view.value c.self.inside.connected c.self.inside.ribs c.self.inside.pending c.args.slot
    ∙ ap (acted (Down c.args.slot)) c.self.view_is
