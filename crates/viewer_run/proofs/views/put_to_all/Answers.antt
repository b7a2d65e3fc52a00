use Rattle.std.proofs.Common.{arith}
use Rattle.viewer_run.proofs.ViewLemmas.{passing_put}
use Rattle.viewer_run.proofs.views.put_to_all.Goals as goal

pub loop-sender-preserved : goal.loop-sender-preserved
loop-sender-preserved g c =
    passing_put c.args.igp.now c.loop-sender.sender-index c.args.shards.now c.loop-sender.shards _ _ c.in-Some.view c.sender-item.result c.put_view.new.sender
    c.loop-sender.invariant (omega (arith, c.loop-sender-test.true)) c.in-Some.ensures.items c.put_view.ensures
