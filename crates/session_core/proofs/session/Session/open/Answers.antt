use Rattle.std.proofs.Common.{ℕ, sym, ap, ◌∙◌}
use Rattle.rcp_model.specs.Opens.{open_octets}
use Rattle.rcp_model.specs.Sessions.{Doing, then_also, sending, begun}
use Rattle.session_core.specs.Held.{Held}
use Rattle.session_core.proofs.AnswerLemmas.{both-are}
use Rattle.session_core.proofs.session.Session.open.Goals as goal

pub returns-clause-does : goal.returns-clause-does
unfolding begun
returns-clause-does c =
    let own = c.in_ok-open_message.ensures.octets
    ∙ ap (λ (n : ℕ). open_octets (record { as_number = n; hold = c.hold.result; id = c.id.result })) c.as_number.ensures.value
    ∙ ap (λ (n : ℕ). open_octets (record { as_number = c.args.roster.now.as_number; hold = n; id = c.id.result })) c.hold.ensures.value
    ∙ ap (λ (n : ℕ). open_octets (record { as_number = c.args.roster.now.as_number; hold = c.args.roster.now.hold; id = n })) c.id.ensures in
    both-are _ _ _ _ (sym (ap (λ (h : Held). h.state) c.begun-session.ensures))
    (sym (c.in_ok-send.ensures
    ∙ ap (λ (d : Doing). then_also d (sending c.in_ok-open_message.field-0.items)) c.none-actions.ensures.does
    ∙ ap sending own))
