use Rattle.std.proofs.Common.{true, refl, ◌∙◌, arith}
use Rattle.rcs_shard.proofs.MarkingLemmas.{below_none, below_more, below_all}
use Rattle.rcs_shard.proofs.marking.mark_all.Goals as goal

pub loop-slot-init : goal.loop-slot-init
loop-slot-init c = below_none c.args.ribs.now (λ e. true) c.args.pending.now

pub loop-slot-preserved : goal.loop-slot-preserved
loop-slot-preserved c =
    below_more c.args.ribs.now (λ e. true) c.args.pending.now c.loop-slot.slot refl c.loop-slot.pending c.mark_of.new.pending c.loop-slot.invariant c.mark_of.ensures

pub returns : goal.returns
returns c =
    c.loop-slot.invariant
    ∙ below_all c.args.ribs.now (λ e. true) c.args.pending.now c.loop-slot.slot
    (λ s p there. let low = c.requires.seated s p there in omega (arith, c.members-slot-end.ensures, low))
