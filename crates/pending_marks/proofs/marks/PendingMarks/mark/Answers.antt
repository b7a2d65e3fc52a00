use Rattle.std.proofs.Common.{◌≡◌, Bool, true, false, not, refl, sym, ap, ◌∙◌, arith}
use Rattle.std.specs.FinSet as set_of
use Rattle.std.proofs.lemmas.Bool.{false≢true}
use Rattle.pending_marks.specs.Marks.{MarksOf, is_opened}
use Rattle.pending_marks.proofs.MarkLemmas.{opened_is, room_for, marks, are_still, are_marked}
use Rattle.pending_marks.proofs.marks.PendingMarks.mark.Goals as goal

was_set : (b t : Bool) → t ≡ not b → t ≡ false → b ≡ true
was_set true t is off = refl
was_set false t is off = absurd (false≢true (sym off ∙ is))

was_clear : (b t : Bool) → t ≡ not b → t ≡ true → b ≡ false
was_clear false t is on = refl
was_clear true t is on = absurd (false≢true (sym is ∙ on))

pub raise_flag-requires : goal.raise_flag-requires
raise_flag-requires c =
    sym (opened_is c.self.inside.flags c.args.p) ∙ ap (λ (m : MarksOf). is_opened m c.args.p) c.self.view_is ∙ c.requires

pub invariant_of-self : goal.invariant_of-self
invariant_of-self c =
    are_still c.self.inside.flags c.raise_flag.new.flags c.args.p c.raise_flag.ensures.set
    (sym (opened_is c.self.inside.flags c.args.p) ∙ ap (λ (m : MarksOf). is_opened m c.args.p) c.self.view_is ∙ c.requires)
    c.self.inside.count c.self.inside.low (was_set _ _ c.raise_flag.ensures.raised c.if-not-raise_flag.true) c.raise_flag.ensures.ordered c.self.invariant

pub returns-then-not-raise_flag : goal.returns-then-not-raise_flag
returns-then-not-raise_flag c =
    marks c.self.inside.flags c.raise_flag.new.flags c.args.p c.raise_flag.ensures.set
    (sym (opened_is c.self.inside.flags c.args.p) ∙ ap (λ (m : MarksOf). is_opened m c.args.p) c.self.view_is ∙ c.requires)
    ∙ ap (λ (m : MarksOf). record m { marked = set_of.insert m.marked c.args.p }) c.self.view_is

pub overflow_add-self : goal.overflow_add-self
overflow_add-self c =
    let room = room_for c.self.inside.flags c.args.p
    (sym (opened_is c.self.inside.flags c.args.p) ∙ ap (λ (m : MarksOf). is_opened m c.args.p) c.self.view_is ∙ c.requires)
    (was_clear _ _ c.raise_flag.ensures.raised c.if-not-raise_flag.false) in
    omega (arith, room, c.self.invariant.counted, c.len-opened.ensures.len, c.len-opened.ensures.small)

pub invariant_of-self-2 : goal.invariant_of-self-2
invariant_of-self-2 c =
    are_marked c.self.inside.flags c.raise_flag.new.flags c.args.p c.raise_flag.ensures.set
    (sym (opened_is c.self.inside.flags c.args.p) ∙ ap (λ (m : MarksOf). is_opened m c.args.p) c.self.view_is ∙ c.requires)
    c.self.inside.count c.self.inside.low c.lower_of.result (was_clear _ _ c.raise_flag.ensures.raised c.if-not-raise_flag.false) c.raise_flag.ensures.ordered c.self.invariant
    c.lower_of.ensures.first c.lower_of.ensures.second

pub returns : goal.returns
returns c =
    marks c.self.inside.flags c.raise_flag.new.flags c.args.p c.raise_flag.ensures.set
    (sym (opened_is c.self.inside.flags c.args.p) ∙ ap (λ (m : MarksOf). is_opened m c.args.p) c.self.view_is ∙ c.requires)
    ∙ ap (λ (m : MarksOf). record m { marked = set_of.insert m.marked c.args.p }) c.self.view_is
