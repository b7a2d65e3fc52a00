use Rattle.std.proofs.Common.{[], ◌∷◌, sym, ap, ◌∙◌}
use Rattle.rcp_model.specs.Sessions.{Doing, Up, then_also, telling, begun_established}
use Rattle.session_core.specs.Held.{Held}
use Rattle.session_core.proofs.AnswerLemmas.{both-are}
use Rattle.session_core.proofs.session.Session.established.Goals as goal

pub returns-clause-does : goal.returns-clause-does
unfolding begun_established
returns-clause-does c =
    both-are _ _ _ _ (sym (ap (λ (h : Held). h.state) c.begun-session.ensures))
    (sym (c.in_ok-tell_up.ensures ∙ ap (λ (d : Doing). then_also d (telling (Up ∷ []))) c.none-actions.ensures.does))
