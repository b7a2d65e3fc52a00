use Rattle.std.proofs.Common.{◌≡◌, ◌∙◌, true, refl, sym, ap, subst, rules}
use Rattle.std.specs.Prelude.{IsTrue}
use Rattle.std.specs.Option.{option_map}
use Rattle.rcp_model.specs.Sessions.{Phase, OpenSent, SessionState, Doing, Answer, Octets, nothing, then_also, begun, answer}
use Rattle.rcp_model.proofs.SessionLemmas.{later_of-none}
use Rattle.session_core.specs.Shown.{ending_of}
use Rattle.session_serve.proofs.OpeningLemmas.{IsOpening, claims-in, opens-answer}
use Rattle.session_serve.proofs.tests.claiming.Goals as goal

pub returns-in-None : goal.returns-in-None
unfolding begun
returns-in-None c =
    let roster = c.args.roster.now in
    let session = c.in_ok-session.session in
    let input = Octets c.deref.result.now 0 in
    let a = answer roster input session.state in
    let yes : IsTrue true = search rules in
    let start : OpenSent 0 ≡ session.state.phase = ap (λ (r : Answer). r.after.phase) c.in_ok-session.ensures.does in
    let before : IsOpening roster nothing 0 session.state.phase = subst (λ (p : Phase). IsOpening roster nothing 0 p) start (refl, refl, refl) in
    let e = c.in_ok-actions.ensures.answered in
    let opened = opens-answer roster nothing 0 (λ now. true) input session.state yes before in
    let x = claims-in roster (then_also nothing a.does) _ c.in-Some.slot a.after.phase opened
    (later_of-none a.does.claim ∙ ap (λ (d : Doing). d.claim) (sym e.does) ∙ c.in-Some.is)
    (later_of-none a.does.closed ∙ ap (λ (d : Doing). d.closed) (sym e.does) ∙ ap (option_map ending_of) c.in-None.is) in
    record { unspent = e.now; since = x.since; terms = x.terms; claims = ap (λ (s : SessionState). s.phase) e.after ∙ x.claims }
