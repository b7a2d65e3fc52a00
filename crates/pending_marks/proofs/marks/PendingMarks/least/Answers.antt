use Rattle.std.proofs.Common.{◌≡◌, true, Option, sym, ap, subst, ◌∙◌}
use Rattle.rcp_base.specs.IpPrefix.{IpPrefix}
use Rattle.rcp_model.specs.Assigned.{IsLeast}
use Rattle.pending_marks.specs.Marks.{MarksOf, is_marked, first_in, IsBelowAll}
use Rattle.pending_marks.proofs.MarkLemmas.{marked_is, least_marked}
use Rattle.pending_marks.proofs.marks.PendingMarks.least.Goals as goal

pub returns-in-None : goal.returns-in-None
returns-in-None c =
    λ q on. subst (λ (o : Option IpPrefix). IsBelowAll o c.self.inside.flags) c.in-None.is c.self.invariant.below q
    (sym (marked_is c.self.inside.flags q) ∙ ap (λ (m : MarksOf). is_marked m q) c.self.view_is ∙ on)

pub returns-in-Some : goal.returns-in-Some
returns-in-Some c =
    subst (λ (o : Option IpPrefix). IsLeast (λ q. is_marked c.args.self.now q ≡ true) o) (sym c.first_from.ensures)
    (subst (λ (m : MarksOf). IsLeast (λ q. is_marked m q ≡ true) (first_in c.in-Some.low c.self.inside.flags.entries)) c.self.view_is
    (least_marked c.self.inside.flags c.in-Some.low c.self.invariant.ordered
    (subst (λ (o : Option IpPrefix). IsBelowAll o c.self.inside.flags) c.in-Some.is c.self.invariant.below)))
