use Rattle.std.proofs.Common.{◌≡◌}
use Rattle.rcs_shard.specs.Slots.{flag_at}
use Rattle.rcs_shard.proofs.MarkingLemmas.{marked_below}
use Rattle.rcs_shard.proofs.marking.mark_flagged.Given as goal

abbrev pub invariant-loop-slot : goal.invariant-loop-slot
invariant-loop-slot l = l.pending ≡ marked_below l.ribs (flag_at l.flags) l.slot l.initial.pending
