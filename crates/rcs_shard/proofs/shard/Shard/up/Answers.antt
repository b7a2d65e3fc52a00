use Rattle.std.proofs.Common.{ap, ◌∙◌}
use Rattle.rcp_model.specs.ServerRibs.{Up}
use Rattle.rcs_shard.specs.Shards.{acted}
use Rattle.rcs_shard.specs.Joins.{shard_in}
use Rattle.rcs_shard.proofs.ShardLemmas.{up_acts, joined_to, joined_up, member_in}
use Rattle.rcs_shard.proofs.shard.Shard.up.Goals as goal

pub invariant_of-self : goal.invariant_of-self
invariant_of-self c = (
  joined_to c.self.inside.number c.self.inside.shards c.self.inside.view.value _ _ _ c.insert.new.self c.clear.new.self c.mark_all.new.pending
      c.insert.ensures c.clear.ensures c.mark_all.ensures
      (joined_up c.self.inside.number c.self.inside.shards c.self.inside.view.value c.self.inside.connected c.self.inside.ribs c.self.inside.pending c.self.invariant.0 c.args.slot (member_in c.self.inside.number c.self.inside.shards c.self.inside.view.value c.self.inside.connected c.self.inside.ribs c.self.inside.pending c.args.self.now c.args.slot c.self.view_is c.requires)),
  c.self.invariant.1,
)

pub returns : goal.returns
returns c =
    (λ i. shard_in c.self.inside.number c.self.inside.shards c.self.inside.view.value (c.insert.ensures i) (c.clear.ensures i) (c.mark_all.ensures i))
    ∙ up_acts c.self.inside.number c.self.inside.shards c.self.inside.view.value c.self.inside.connected c.self.inside.ribs c.self.inside.pending c.args.slot
    ∙ ap (acted (Up c.args.slot)) c.self.view_is
