-- What is queued is the Cease.
use Rattle.std.proofs.Common.{◌≡◌, ◌∙◌, ℕ, List, ◌++◌, OnOk, ap, subst}
use Rattle.rcp_model.specs.Sessions.{Doing}
use Rattle.outbox.specs.Outs.{OutOf}
use Rattle.session_run.proofs.RefuseLemmas.{refused-sends}
use Rattle.session_run.proofs.session.add_cease.Goals as goal

pub returns-in-Ok-clause-pushed : goal.returns-in-Ok-clause-pushed
returns-in-Ok-clause-pushed c =
    let old = c.args.outbox.now in
    subst (λ (ms : List (List ℕ)). OnOk c.push.result (c.push.new.self ≡ (let o : OutOf = record old { waiting = old.waiting ++ ms } in o)))
    (ap (λ (d : Doing). d.sent) c.in-Ok.ensures.answered.does ∙ refused-sends c.args.roster.now c.args.now c.requires.0 c.args.session c.requires.1)
    c.push.ensures.pushed
