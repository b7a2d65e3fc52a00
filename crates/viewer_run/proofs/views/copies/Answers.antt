use Rattle.viewer_run.proofs.ViewLemmas.{is_view, one_more_copy}
use Rattle.viewer_run.proofs.views.copies.Goals as goal

pub loop-shard-preserved : goal.loop-shard-preserved
loop-shard-preserved c =
    let igp = c.args.igp.now in
    let view = c.in_ok-view.ensures in
    one_more_copy igp _ _ c.in_ok-view.field-0 _ c.in_ok-push.ensures.items c.loop-shard.invariant (is_view igp _ view.view view.edges view.kept)
