use Rattle.std.proofs.Common.{◌+◌, subst, sym}
use Rattle.spf_incr.specs.Tables.{engine_costs}
use Rattle.igp_view.specs.Following.{AreAllRows}
use Rattle.igp_view.proofs.FollowingLemmas.{one_more_slot}
use Rattle.igp_view.proofs.following.all_rows.Goals as goal

pub loop-place-preserved : goal.loop-place-preserved
loop-place-preserved c =
    subst (AreAllRows (engine_costs c.args.engine.now) (c.loop-place.place + 1)) (sym c.in_ok-push.ensures.items)
    (one_more_slot (engine_costs c.args.engine.now) c.loop-place.place c.loop-place.rows.items c.in_ok-row.row c.in_ok-row.ensures c.loop-place.invariant)
