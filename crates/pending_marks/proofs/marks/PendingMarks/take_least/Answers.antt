use Rattle.std.proofs.Common.{ℕ, ◌≤◌, sym, ap, subst, ◌∙◌}
use Rattle.std.specs.FinSet as set_of
use Rattle.pending_marks.specs.Marks.{MarksOf, is_marked}
use Rattle.pending_marks.proofs.MarkLemmas.{there_of_marked, one_marked, takes, are_taken}
use Rattle.pending_marks.proofs.marks.PendingMarks.take_least.Goals as goal

pub set_flag-requires : goal.set_flag-requires
set_flag-requires c =
    there_of_marked c.self.inside.flags c.in_ok-p.p (ap (λ (m : MarksOf). is_marked m c.in_ok-p.p) c.self.view_is ∙ c.in_ok-p.ensures.0)

pub overflow_sub-self : goal.overflow_sub-self
overflow_sub-self c =
    subst (λ (n : ℕ). 1 ≤ n) (sym c.self.invariant.counted)
    (one_marked c.self.inside.flags c.in_ok-p.p (ap (λ (m : MarksOf). is_marked m c.in_ok-p.p) c.self.view_is ∙ c.in_ok-p.ensures.0))

pub invariant_of-self : goal.invariant_of-self
invariant_of-self c =
    let on = ap (λ (m : MarksOf). is_marked m c.in_ok-p.p) c.self.view_is ∙ c.in_ok-p.ensures.0 in
    are_taken c.self.inside.flags c.set_flag.new.flags c.in_ok-p.p c.set_flag.ensures.set
    (there_of_marked c.self.inside.flags c.in_ok-p.p on)
    c.self.inside.count c.self.inside.low c.set_flag.ensures.ordered c.self.invariant on
    (λ q marked. c.in_ok-p.ensures.1 q (ap (λ (m : MarksOf). is_marked m q) (sym c.self.view_is) ∙ marked))

pub returns-clause-taken : goal.returns-clause-taken
returns-clause-taken c =
    takes c.self.inside.flags c.set_flag.new.flags c.in_ok-p.p c.set_flag.ensures.set
    (there_of_marked c.self.inside.flags c.in_ok-p.p (ap (λ (m : MarksOf). is_marked m c.in_ok-p.p) c.self.view_is ∙ c.in_ok-p.ensures.0))
    ∙ ap (λ (m : MarksOf). record m { marked = set_of.remove m.marked c.in_ok-p.p }) c.self.view_is
