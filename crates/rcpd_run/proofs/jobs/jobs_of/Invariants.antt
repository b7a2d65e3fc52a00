-- The sessions so far have a job each, and no other job is that of a session.
use Rattle.std.proofs.Common.{◌≡◌}
use Rattle.rcpd_run.specs.Ends.{count_sessions}
use Rattle.rcpd_run.proofs.jobs.jobs_of.Given as goal

abbrev pub invariant-loop-place : goal.invariant-loop-place
invariant-loop-place g l = count_sessions l.jobs.items ≡ l.place

abbrev pub invariant-loop-worker : goal.invariant-loop-worker
invariant-loop-worker g l = record {
  iterator : (goal.iterator-loop-worker g).can_next l.worker-iterator × (goal.iterator-loop-worker g).is_finite l.worker-iterator;
  count : count_sessions l.jobs.items ≡ l.sessions;
}
