-- The OPEN waits for the link.
use Rattle.std.proofs.Common.{◌∙◌, false, ◌++◌, sym, ap}
use Rattle.rcp_model.specs.Sessions.{Answer, begun}
use Rattle.session_core.specs.Shown.{doing_of}
use Rattle.outbox.specs.Outs.{OutOf}
use Rattle.session_run.proofs.GreetEnds.{begins}
use Rattle.session_run.proofs.greeting.Greeting.open.Goals as goal

pub returns : goal.returns
unfolding begun
returns c can_give may_stop wire given =
    let does = c.in_ok-session.ensures.does in
    begins c.args.roster.now can_give may_stop wire c.args.now c.in_ok-session.session c.push.new.self given c.in_ok-session.ensures.unspent (ap (λ (a : Answer). a.after) (sym does))
    (c.in_ok-push.ensures.pushed
    ∙ ap (λ (o : OutOf). let r : OutOf = record o { waiting = o.waiting ++ (doing_of c.in_ok-session.actions).sent } in r) c.new-out.ensures
    ∙ ap (λ (a : Answer). let r : OutOf = record { waiting = a.does.sent; written = 0; to_last_update = 0; updates = 0; failed = false } in r) (sym does))
