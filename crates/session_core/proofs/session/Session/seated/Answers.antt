use Rattle.std.proofs.Common.{ℕ, max, sym, ap, ◌∙◌, refl}
use Rattle.rcp_model.specs.Sessions.{SessionState, is_closed, Seat}
use Rattle.session_core.specs.Shown.{phase_of}
use Rattle.session_core.specs.Held.{Held}
use Rattle.session_core.proofs.AnswerLemmas.{closed-answers, seat-answers, answers-as}
use Rattle.session_core.proofs.CountLemmas.{closed-handles}
use Rattle.session_core.proofs.session.Session.seated.Goals as goal

pub returns-then-is_closed-clause-answered : goal.returns-then-is_closed-clause-answered
returns-then-is_closed-clause-answered c =
    let same = sym c.self.view_is in
    closed-answers c.args.roster.now (Seat c.args.free c.args.now) c.args.self.now c.none-actions.result (ap (λ (h : Held). h.spent) same ∙ c.if-self.false)
    (ap (λ (h : Held). is_closed h.state.phase) same ∙ sym c.is_closed.ensures ∙ c.if-is_closed.true) c.none-actions.ensures.does

pub returns-clause-answered : goal.returns-clause-answered
returns-clause-answered c =
    let same = sym c.self.view_is in
    seat-answers c.args.roster.now c.args.free c.args.now c.args.self.now _ c.answer_claim.new.self _ c.none-actions.result _
    (ap (λ (h : Held). h.spent) same ∙ c.if-self.false)
    (ap (λ (h : Held). is_closed h.state.phase) same ∙ sym c.is_closed.ensures ∙ c.if-is_closed.false)
    (ap (λ (l : ℕ). let r : SessionState = record { phase = phase_of c.self.inside.state; kept = c.self.inside.kept.items; latest = l } in r) c.max-self-inside.ensures
    ∙ ap (λ (h : Held). let r : SessionState = record { phase = h.state.phase; kept = h.state.kept; latest = max h.state.latest c.args.now } in r) c.self.view_is)
    c.none-actions.ensures.does
    (answers-as _ _ _ _ c.answer_claim.new.actions _ refl c.in_ok-handled.ensures.answered) refl (ap (λ (h : Held). h.state) c.self-2.view_is)

pub returns-then-is_closed-clause-handled : goal.returns-then-is_closed-clause-handled
returns-then-is_closed-clause-handled c =
    let closed = ap (λ (h : Held). is_closed h.state.phase) (sym c.self.view_is) ∙ sym c.is_closed.ensures ∙ c.if-is_closed.true in
    c.none-actions.ensures.handled ∙ sym (closed-handles c.args.roster.now c.args.free (max c.args.self.now.state.latest c.args.now) c.args.self.now.state.kept c.args.self.now.state.phase closed)
