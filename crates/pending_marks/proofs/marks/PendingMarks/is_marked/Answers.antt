use Rattle.std.proofs.Common.{sym, ap, ◌∙◌}
use Rattle.pending_marks.specs.Marks.{MarksOf, is_marked}
use Rattle.pending_marks.proofs.MarkLemmas.{marked_is}
use Rattle.pending_marks.proofs.marks.PendingMarks.is_marked.Goals as goal

pub returns : goal.returns
returns c = c.flag.ensures ∙ sym (marked_is c.self.inside.flags c.args.p) ∙ ap (λ (m : MarksOf). is_marked m c.args.p) c.self.view_is
