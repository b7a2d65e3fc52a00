use Rattle.std.proofs.Common.{sym, ◌∙◌, arith}
use Rattle.rcs_shard.specs.Slots.{flag_at}
use Rattle.rcs_shard.proofs.MarkingLemmas.{below_none, below_more, below_skip, below_all}
use Rattle.rcs_shard.proofs.marking.mark_flagged.Goals as goal
use Rattle.rcs_shard.proofs.marking.mark_flagged.Goals.{then-is_flagged, else-is_flagged}

pub loop-slot-init : goal.loop-slot-init
loop-slot-init c = below_none c.args.ribs.now (flag_at c.args.flags.now) c.args.pending.now

pub loop-slot-preserved : goal.loop-slot-preserved
loop-slot-preserved c =
    elim c.if-is_flagged.branch [
      | then-is_flagged w ↦ w.pending-is
          ∙ below_more c.args.ribs.now (flag_at c.args.flags.now) c.args.pending.now c.loop-slot.slot (sym c.is_flagged.ensures ∙ w.if-is_flagged.true) c.loop-slot.pending w.mark_of.new.pending
          c.loop-slot.invariant w.mark_of.ensures
      | else-is_flagged w ↦ w.pending-is ∙ c.loop-slot.invariant
          ∙ below_skip c.args.ribs.now (flag_at c.args.flags.now) c.args.pending.now c.loop-slot.slot (sym c.is_flagged.ensures ∙ w.if-is_flagged.false)
    ]

pub returns : goal.returns
returns c =
    c.loop-slot.invariant
    ∙ below_all c.args.ribs.now (flag_at c.args.flags.now) c.args.pending.now c.loop-slot.slot
    (λ s p there. let low = c.requires.seated s p there in omega (arith, c.members-slot-end.ensures, low))
