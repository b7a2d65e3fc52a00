use Rattle.std.proofs.Common.{◌∙◌, [], List, ℕ, refl, sym, ap, append-nil}
use Rattle.session_core.specs.Shown.{doing_of}
use Rattle.outbox.specs.Outs.{OutOf}
use Rattle.session_run.proofs.greeting.Greeting.act.Goals as goal

pub returns-in-Ok-clause-queues : goal.returns-in-Ok-clause-queues
returns-in-Ok-clause-queues c = record {
  queued = (doing_of c.args.actions).sent;
  unqueued = [];
  all = sym (append-nil (doing_of c.args.actions).sent);
  pushed = c.in-Ok.ensures.pushed;
  same_front = c.push.ensures.same_front;
  closes = c.ended_by.ensures;
}

pub returns-clause-queues : goal.returns-clause-queues
returns-clause-queues c =
    let o = c.args.self.now.out in
    record {
      queued = [];
      unqueued = (doing_of c.args.actions).sent;
      all = refl;
      pushed = c.in-Err.ensures.refused ∙ ap (λ (w : List (List ℕ)). let r : OutOf = record o { waiting = w } in r) (sym (append-nil o.waiting));
      same_front = c.push.ensures.same_front;
      closes = tt;
    }
