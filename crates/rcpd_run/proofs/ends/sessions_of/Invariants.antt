-- The sessions of the jobs so far.
use Rattle.std.proofs.Common.{◌≡◌, length, All}
use Rattle.rcpd_run.specs.Daemons.{IsReported}
use Rattle.rcpd_run.specs.Ends.{sessions_in, count_sessions}
use Rattle.rcpd_run.proofs.ends.sessions_of.Given as goal

abbrev pub invariant-loop-job : goal.invariant-loop-job
invariant-loop-job g l = record {
  iterator : (goal.iterator-loop-job g).can_next l.job-iterator × (goal.iterator-loop-job g).is_finite l.job-iterator;
  sessions : l.sessions.items ≡ sessions_in l.yielded;
  all : length l.sessions.items ≡ count_sessions l.yielded;
  reported : All (λ served. IsReported served.end.why) l.sessions.items;
}
