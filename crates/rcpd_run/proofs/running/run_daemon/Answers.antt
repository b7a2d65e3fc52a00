use Rattle.std.proofs.Common.{ℕ, Err, ap, subst}
use Rattle.link_acceptor.specs.Accepting.{RoseBy}
use Rattle.feed_format.specs.declared.status.Status.TheVariants as status
use Rattle.rcpd_run.proofs.RunLemmas.{of_refusal, not_usage, not_write, not_net, not_reached, sessions_are, reported}
use Rattle.rcpd_run.proofs.running.run_daemon.Goals as goal

pub returns-in_default-clause-complete : goal.returns-in_default-clause-complete
returns-in_default-clause-complete g c settings stands octets roster left is source sink net = absurd (c.in_default.ensures settings stands)

pub returns-in-Err-clause-usage : goal.returns-in-Err-clause-usage
returns-in-Err-clause-usage g c =
    ((λ e. absurd (not_usage c.in-Err.status c.in-Err.ensures.refused e)), (λ none. absurd (none c.in-Some.settings c.in-Some.ensures)))

pub returns-in-Err-clause-never : goal.returns-in-Err-clause-never
returns-in-Err-clause-never g c = of_refusal c.in-Err.status c.in-Err.ensures.refused

pub returns-in-Err-clause-nothing_read : goal.returns-in-Err-clause-nothing_read
returns-in-Err-clause-nothing_read g c e = absurd (not_usage c.in-Err.status c.in-Err.ensures.refused e)

pub returns-in-Err-clause-cause : goal.returns-in-Err-clause-cause
returns-in-Err-clause-cause g c = record {
  read = λ e. c.in-Err.ensures.cause (ap Err e);
  write = λ e. absurd (not_write c.in-Err.status c.in-Err.ensures.refused e);
  net = λ e. absurd (not_net c.in-Err.status c.in-Err.ensures.refused e);
}

pub returns-in-Err-clause-through : goal.returns-in-Err-clause-through
returns-in-Err-clause-through g c reached = absurd (not_reached c.in-Err.status c.in-Err.ensures.refused reached)

pub returns-in-Err-clause-handed_out : goal.returns-in-Err-clause-handed_out
returns-in-Err-clause-handed_out g c reached = absurd (not_reached c.in-Err.status c.in-Err.ensures.refused reached)

pub returns-in-Err-clause-served : goal.returns-in-Err-clause-served
returns-in-Err-clause-served g c reached = absurd (not_reached c.in-Err.status c.in-Err.ensures.refused reached)

pub returns-in-Ok-write_all-clause-handed_out : goal.returns-in-Ok-write_all-clause-handed_out
returns-in-Ok-write_all-clause-handed_out g c reached settings stands =
    subst (λ (n : ℕ). RoseBy n (g.N.Net.handed_out c.args.net.now) (g.N.Net.handed_out c.serve.new.net)) (sessions_are _ _ _ c.in-Some.ensures stands) c.in-Ok-serve.ensures.handed_out

pub returns-in-Ok-write_all-clause-served : goal.returns-in-Ok-write_all-clause-served
returns-in-Ok-write_all-clause-served g c reached settings stands =
    reported status.Done _ _ c.in-Ok.roster _ _ _ _ _ c.in-Ok-serve.report.items _ _ _ c.in-Ok.ensures.exact (sessions_are _ _ _ c.in-Some.ensures stands) c.deref.ensures.value c.in-Ok-serve.ensures.served
    c.in-Ok-write_all.ensures.all

pub returns-clause-handed_out : goal.returns-clause-handed_out
returns-clause-handed_out g c reached settings stands =
    subst (λ (n : ℕ). RoseBy n (g.N.Net.handed_out c.args.net.now) (g.N.Net.handed_out c.serve.new.net)) (sessions_are _ _ _ c.in-Some.ensures stands) c.in-Ok-serve.ensures.handed_out

pub returns-clause-served : goal.returns-clause-served
returns-clause-served g c reached settings stands =
    reported status.Write _ _ c.in-Ok.roster _ _ _ _ _ c.in-Ok-serve.report.items _ _ _ c.in-Ok.ensures.exact (sessions_are _ _ _ c.in-Some.ensures stands) c.deref.ensures.value c.in-Ok-serve.ensures.served
    (record { count = c.in-Err-write_all.field-0.0; fewer = c.in-Err-write_all.ensures.part; taken = c.in-Err-write_all.ensures.front })
