use Rattle.rcs_shard.proofs.MarkingLemmas.{marking_more, marking_ends, fewer_left}
use Rattle.rcs_shard.proofs.marking.mark_of.Goals as goal

pub loop-p-smaller : goal.loop-p-smaller
loop-p-smaller c = fewer_left c.args.ribs.now c.args.slot c.loop-p.after c.in-Some.p c.in-Some.ensures.next

pub loop-p-preserved : goal.loop-p-preserved
loop-p-preserved c =
    marking_more c.args.ribs.now c.args.slot c.loop-p.after c.in-Some.p c.in-Some.ensures.next c.args.pending.now c.loop-p.pending c.loop-p.invariant
    c.mark.new.self c.mark.ensures

pub returns : goal.returns
returns c = marking_ends c.args.ribs.now c.args.slot c.loop-p.after c.args.pending.now c.loop-p.pending c.in_default.ensures.next c.loop-p.invariant
