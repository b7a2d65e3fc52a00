use Rattle.std.proofs.Common.{◌≡◌, length}
use Rattle.egress_rank.proofs.MarkLemmas.{Walked}
use Rattle.egress_rank.proofs.marks.mark_tied.Given as goal

abbrev pub invariant-loop-candidate : goal.invariant-loop-candidate
invariant-loop-candidate l = Walked l.ranked l.candidate-index l.marks l.leader × (length l.marks ≡ length l.fn.marks)
