use Rattle.std.proofs.Common.{length}
use Rattle.igp_view.proofs.TakingLemmas.{Taking}
use Rattle.igp_view.proofs.intake.take_in.Given as goal

abbrev pub invariant-loop-packet : goal.invariant-loop-packet
invariant-loop-packet l = Taking l.area l.fn.framer l.piece l.framer l.rest l.fn.lsdb l.lsdb l.got

abbrev pub decreases-loop-packet : goal.decreases-loop-packet
decreases-loop-packet l = length l.rest
