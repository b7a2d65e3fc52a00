use Rattle.std.proofs.Common.{sym, ap, ◌∙◌}
use Rattle.pending_marks.specs.Marks.{MarksOf, is_opened}
use Rattle.pending_marks.proofs.MarkLemmas.{opened_is}
use Rattle.pending_marks.proofs.marks.PendingMarks.is_opened.Goals as goal

pub returns : goal.returns
returns c = c.contains_key.ensures ∙ sym (opened_is c.self.inside.flags c.args.p) ∙ ap (λ (m : MarksOf). is_opened m c.args.p) c.self.view_is
