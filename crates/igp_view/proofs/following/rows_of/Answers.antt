use Rattle.std.proofs.Common.{take}
use Rattle.spf_incr.specs.Tables.{engine_costs}
use Rattle.igp_view.proofs.FollowingLemmas.{taken, one_more_row, no_more_row}
use Rattle.igp_view.proofs.following.rows_of.Goals as goal
use Rattle.igp_view.proofs.following.rows_of.Goals.{then-not-is_last+in_ok-row+in_ok-push, else-not-is_last}

pub loop-slot-preserved : goal.loop-slot-preserved
loop-slot-preserved c =
    let item = c.loop-slot-item.result in
    let before = take c.loop-slot.slot-index c.args.pairs.now in
    rw (taken c.args.pairs.now c.loop-slot.slot-index item c.loop-slot-test.true c.loop-slot-item.is)
    (elim c.if-not-is_last.branch [
      | then-not-is_last+in_ok-row+in_ok-push w ↦
          rw (w.rows-is, w.in_ok-push.ensures.items)
          (one_more_row (engine_costs c.args.engine.now) before c.loop-slot.rows.items item.0 item.1 w.in_ok-row.row w.in_ok-row.ensures c.loop-slot.invariant)
      | else-not-is_last w ↦
          rw w.rows-is
          (no_more_row (engine_costs c.args.engine.now) before c.loop-slot.rows.items item.0 item.1 (rw c.as_slice.ensures.value at (rw w.if-not-is_last.false at c.is_last.ensures)) c.loop-slot.invariant)
    ])
