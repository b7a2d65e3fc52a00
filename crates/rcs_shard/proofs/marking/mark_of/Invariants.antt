use Rattle.rcs_shard.proofs.MarkingLemmas.{Marking, left_of}
use Rattle.rcs_shard.proofs.marking.mark_of.Given as goal

abbrev pub invariant-loop-p : goal.invariant-loop-p
invariant-loop-p l = Marking l.ribs l.slot l.initial.pending l.after l.pending

abbrev pub decreases-loop-p : goal.decreases-loop-p
decreases-loop-p l = left_of l.ribs l.slot l.after
