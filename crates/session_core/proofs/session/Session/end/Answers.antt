use Rattle.std.proofs.Common.{[], Some, sym, ap, ◌∙◌}
use Rattle.rcp_model.specs.Sessions.{SessionState, Doing, Closed, Ended, ending, is_closed, End}
use Rattle.session_core.specs.Held.{Held}
use Rattle.session_core.proofs.AnswerLemmas.{closed-answers, end-answers}
use Rattle.session_core.proofs.AnswerLemmas.{true-false}
use Rattle.session_core.proofs.session.Session.end.Goals as goal
use Rattle.session_core.proofs.session.Session.end.Goals.{else-not-self-via-then-not-self+else-is_closed, else-not-self-via-else-not-self}

pub returns-then-is_closed-clause-unspent : goal.returns-then-is_closed-clause-unspent
returns-then-is_closed-clause-unspent c unspent roster =
    closed-answers roster End c.args.self.now c.none-actions.result unspent
    (ap (λ (h : Held). is_closed h.state.phase) (sym c.self.view_is) ∙ sym c.is_closed.ensures ∙ c.if-is_closed.true) c.none-actions.ensures.does

pub returns-clause-unspent : goal.returns-clause-unspent
returns-clause-unspent c unspent roster =
    let same = sym c.self.view_is in
    end-answers roster c.args.self.now c.move_to.new.self _ unspent
    (elim c.else-not-self.branch [
      | else-not-self-via-then-not-self+else-is_closed w ↦ ap (λ (h : Held). is_closed h.state.phase) same ∙ sym w.is_closed.ensures ∙ w.if-is_closed.false
      | else-not-self-via-else-not-self w ↦ absurd (true-false (sym w.if-not-self.false ∙ ap (λ (h : Held). h.spent) c.self.view_is ∙ unspent))
    ])
    c.move_to.ensures.spent
    (c.move_to.ensures.state ∙ ap (λ (h : Held). let r : SessionState = record { phase = Closed; kept = []; latest = h.state.latest } in r) c.self.view_is)
    (ap (λ (d : Doing). let r : Doing = record d { closed = Some (ending Ended 0 0) } in r) c.none-actions.ensures.does)
