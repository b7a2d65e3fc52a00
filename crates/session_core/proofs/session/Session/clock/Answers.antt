use Rattle.std.proofs.Common.{◌≡◌, ℕ, ◌≢◌, false, [], max, sym, ap, subst, ◌∙◌, refl}
use Rattle.std.specs.Prelude.{if◌then◌else◌}
use Rattle.rcp_base.specs.Roster.{RosterOf}
use Rattle.rcp_model.specs.Sessions.{SessionState, is_closed, Moment, tick, answer}
use Rattle.session_core.specs.Shown.{phase_of}
use Rattle.session_core.specs.Steps.{Takes}
use Rattle.session_core.specs.Held.{Held}
use Rattle.session_core.proofs.AnswerLemmas.{closed-answers, clock-answers, moment-sends}
use Rattle.session_core.proofs.StepLemmas.{after-error}
use Rattle.session_core.proofs.session.Session.clock.Goals as goal

pub returns-then-is_closed-clause-answered : goal.returns-then-is_closed-clause-answered
returns-then-is_closed-clause-answered c roster =
    let same = sym c.self.view_is in
    closed-answers roster (Moment c.args.now) c.args.self.now c.none-actions.result (ap (λ (h : Held). h.spent) same ∙ c.if-self.false)
    (ap (λ (h : Held). is_closed h.state.phase) same ∙ sym c.is_closed.ensures ∙ c.if-is_closed.true) c.none-actions.ensures.does

pub returns-clause-answered : goal.returns-clause-answered
returns-clause-answered c roster =
    let same = sym c.self.view_is in
    clock-answers roster c.args.now c.args.self.now _ c.none-actions.result c.tick.new.actions c.in_ok-state.state
    (ap (λ (h : Held). h.spent) same ∙ c.if-self.false)
    (ap (λ (h : Held). is_closed h.state.phase) same ∙ sym c.is_closed.ensures ∙ c.if-is_closed.false)
    c.none-actions.ensures.does
    (subst (λ (h : Held). Takes (tick (max h.state.latest c.args.now) h.state.phase) c.none-actions.result c.in_ok-state.state c.tick.new.actions) c.self.view_is
    (subst (λ (l : ℕ). Takes (tick l (phase_of c.self.inside.state)) c.none-actions.result c.in_ok-state.state c.tick.new.actions) c.max-self-inside.ensures c.in_ok-state.ensures.taken))
    refl
    (ap (λ (h : Held). h.state) c.self-2.view_is ∙ c.move_to.ensures.state
    ∙ ap (λ (l : ℕ). let r : SessionState = record { phase = phase_of c.in_ok-state.state; kept = if is_closed (phase_of c.in_ok-state.state) then [] else c.self.inside.kept.items; latest = l } in r) c.max-self-inside.ensures
    ∙ ap (λ (h : Held). let r : SessionState = record { phase = phase_of c.in_ok-state.state; kept = if is_closed (phase_of c.in_ok-state.state) then [] else h.state.kept; latest = max h.state.latest c.args.now } in r) c.self.view_is)

pub returns-in_err-state-clause-want : goal.returns-in_err-state-clause-want
returns-in_err-state-clause-want c =
    let same = sym c.self.view_is in
    let open_ = ap (λ (h : Held). is_closed h.state.phase) same ∙ sym c.is_closed.ensures ∙ c.if-is_closed.false in
    let sends = subst (λ (h : Held). (tick (max h.state.latest c.args.now) h.state.phase).does.sent ≢ []) c.self.view_is
    (subst (λ (l : ℕ). (tick l (phase_of c.self.inside.state)).does.sent ≢ []) c.max-self-inside.ensures c.in_err-state.ensures.want) in
    let all : c.args.self.now.spent ≡ false → (roster : RosterOf) → (answer roster (Moment c.args.now) c.args.self.now.state).does.sent ≢ [] =
    λ unspent roster. moment-sends roster c.args.now c.args.self.now open_ sends in
    after-error _ all
