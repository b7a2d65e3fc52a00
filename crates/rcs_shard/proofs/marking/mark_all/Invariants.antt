use Rattle.std.proofs.Common.{◌≡◌, true}
use Rattle.rcs_shard.proofs.MarkingLemmas.{marked_below}
use Rattle.rcs_shard.proofs.marking.mark_all.Given as goal

abbrev pub invariant-loop-slot : goal.invariant-loop-slot
invariant-loop-slot l = l.pending ≡ marked_below l.ribs (λ e. true) l.slot l.initial.pending
