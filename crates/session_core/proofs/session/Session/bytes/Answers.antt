use Rattle.std.proofs.Common.{ℕ, ◌++◌, max, sym, ap, ◌∙◌, refl}
use Rattle.rcp_model.specs.Sessions.{SessionState, is_closed, Octets}
use Rattle.session_core.specs.Shown.{phase_of}
use Rattle.session_core.specs.Held.{Held}
use Rattle.session_core.proofs.AnswerLemmas.{closed-answers, bytes-answers, runs-as}
use Rattle.session_core.proofs.CountLemmas.{closed-reads, handled-none}
use Rattle.session_core.proofs.session.Session.bytes.Goals as goal

pub returns-then-is_closed-clause-answered : goal.returns-then-is_closed-clause-answered
returns-then-is_closed-clause-answered c =
    let same = sym c.self.view_is in
    closed-answers c.args.roster.now (Octets c.args.piece.now c.args.now) c.args.self.now c.none-actions.result (ap (λ (h : Held). h.spent) same ∙ c.if-self.false)
    (ap (λ (h : Held). is_closed h.state.phase) same ∙ sym c.is_closed.ensures ∙ c.if-is_closed.true) c.none-actions.ensures.does

pub returns-clause-answered : goal.returns-clause-answered
returns-clause-answered c =
    let same = sym c.self.view_is in
    bytes-answers c.args.roster.now c.args.piece.now c.args.now c.args.self.now _ c.read_piece.new.self _ c.none-actions.result _
    (ap (λ (h : Held). h.spent) same ∙ c.if-self.false)
    (ap (λ (h : Held). is_closed h.state.phase) same ∙ sym c.is_closed.ensures ∙ c.if-is_closed.false)
    (ap (λ (l : ℕ). let r : SessionState = record { phase = phase_of c.self.inside.state; kept = c.self.inside.kept.items; latest = l } in r) c.max-self-inside.ensures
    ∙ ap (λ (h : Held). let r : SessionState = record { phase = h.state.phase; kept = h.state.kept; latest = max h.state.latest c.args.now } in r) c.self.view_is)
    c.none-actions.ensures.does
    (runs-as _ _ _ _ c.read_piece.new.actions _ refl c.in_ok-handled.ensures.runs) refl (ap (λ (h : Held). h.state) c.self-2.view_is)

pub returns-then-is_closed-clause-handled : goal.returns-then-is_closed-clause-handled
returns-then-is_closed-clause-handled c =
    let closed = ap (λ (h : Held). is_closed h.state.phase) (sym c.self.view_is) ∙ sym c.is_closed.ensures ∙ c.if-is_closed.true in
    c.none-actions.ensures.handled ∙ sym (handled-none c.args.roster.now (max c.args.self.now.state.latest c.args.now) (c.args.self.now.state.kept ++ c.args.piece.now) c.args.self.now.state.phase (closed-reads c.args.self.now.state.phase closed))
