use Rattle.std.proofs.Common.{◌∙◌, [], List, ℕ, refl, sym, ap, append-nil}
use Rattle.session_core.specs.Shown.{doing_of}
use Rattle.outbox.specs.Outs.{OutOf}
use Rattle.session_serve.proofs.serving.Serving.act.Goals as goal

pub returns-in-Ok-clause-acts : goal.returns-in-Ok-clause-acts
returns-in-Ok-clause-acts g c = record {
  between = c.put_events-up.new.out;
  written = c.put_events-up.ensures.written;
  queued = (doing_of c.args.actions).sent;
  unqueued = [];
  all = sym (append-nil (doing_of c.args.actions).sent);
  pushed = c.in-Ok.ensures.pushed;
  same_front = c.push.ensures.same_front;
  closes = c.ended_by.ensures;
}

pub returns-in-Err-clause-acts : goal.returns-in-Err-clause-acts
returns-in-Err-clause-acts g c =
    let o = c.put_events-up.new.out in
    record {
      between = o;
      written = c.put_events-up.ensures.written;
      queued = [];
      unqueued = (doing_of c.args.actions).sent;
      all = refl;
      pushed = c.in-Err.ensures.refused ∙ ap (λ (w : List (List ℕ)). let r : OutOf = record o { waiting = w } in r) (sym (append-nil o.waiting));
      same_front = c.push.ensures.same_front;
      closes = tt;
    }
