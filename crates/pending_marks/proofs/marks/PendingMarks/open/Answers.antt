use Rattle.std.proofs.Common.{sym, ap, ◌∙◌}
use Rattle.std.specs.FinSet as set_of
use Rattle.pending_marks.specs.Marks.{MarksOf, is_opened}
use Rattle.pending_marks.proofs.MarkLemmas.{opened_is, opened_again, none_from, opens, are_opened}
use Rattle.pending_marks.proofs.marks.PendingMarks.open.Goals as goal

pub returns-then-contains_key-clause-ok : goal.returns-then-contains_key-clause-ok
returns-then-contains_key-clause-ok c =
    opened_again c.args.self.now c.args.p
    (ap (λ (m : MarksOf). is_opened m c.args.p) (sym c.self.view_is) ∙ opened_is c.self.inside.flags c.args.p ∙ sym c.if-contains_key.ensures)

pub invariant_of-self-2 : goal.invariant_of-self-2
invariant_of-self-2 c =
    are_opened c.self.inside.flags c.insert.new.self c.args.p c.in-Ok.ensures.updates.0
    (none_from c.self.inside.flags c.args.p (sym c.if-contains_key.ensures))
    c.self.inside.count c.self.inside.low c.in-Ok.ensures.ordered c.self.invariant

pub returns-clause-ok : goal.returns-clause-ok
returns-clause-ok c =
    opens c.self.inside.flags c.insert.new.self c.args.p c.in-Ok.ensures.updates.0
    (none_from c.self.inside.flags c.args.p (sym c.if-contains_key.ensures))
    ∙ ap (λ (m : MarksOf). record m { opened = set_of.insert m.opened c.args.p }) c.self.view_is
