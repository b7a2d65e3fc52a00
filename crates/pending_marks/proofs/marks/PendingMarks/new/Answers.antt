use Rattle.pending_marks.proofs.MarkLemmas.{are_new, new_marks}
use Rattle.pending_marks.proofs.marks.PendingMarks.new.Goals as goal

pub invariant_of-result : goal.invariant_of-result
invariant_of-result c = are_new c.new.result c.new.ensures.empty

pub returns : goal.returns
returns c = new_marks c.new.result c.new.ensures.empty
