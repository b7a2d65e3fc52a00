use Rattle.std.proofs.Common.{ap, ◌∙◌}
use Rattle.cost_rows.specs.Views.{ViewOf}
use Rattle.rcs_shard.specs.Shards.{new_shard}
use Rattle.rcs_shards.proofs.StepLemmas.{new-more}
use Rattle.rcs_shards.proofs.shards.new_shards.Goals as goal

pub loop-number-preserved : goal.loop-number-preserved
loop-number-preserved c =
    new-more c.args.roster.now c.args.view.now.value.edges c.loop-number.number c.loop-number.shards.items c.in_ok-new.field-0 c.push.new.self.items c.loop-number.invariant
    (c.in_ok-new.ensures ∙ ap (λ (v : ViewOf). new_shard c.loop-number.number c.args.roster.now.shards c.args.roster.now.members v.edges) c.in_ok-clone.ensures.cases) c.in_ok-push.ensures.items
