use Rattle.std.proofs.Common.{◌≡◌, take, replicate, false, length}
use Rattle.egress_rank.proofs.marks.unmark_all.Given as goal

abbrev pub invariant-loop-mark : goal.invariant-loop-mark
invariant-loop-mark l = (take l.mark-index l.mark-items ≡ replicate l.mark-index false) × (length l.mark-items ≡ length l.fn.marks)
