-- What the jobs of a daemon leave.
use Rattle.std.specs.Prelude.{◌≡◌, ℕ, Bool, true, false, List, IfSome}
use Rattle.atomic_table.specs.Seated.{TableId}
use Rattle.rcp_base.specs.Roster.{RosterOf}
use Rattle.outside.specs.Links.{IsFresh}
use Rattle.outbox.specs.Wires.{WireOf}
use Rattle.session_serve.specs.declared.ends.SessionEnd.{SessionEnd}
use Rattle.session_run.specs.Sessions.{IsSession, closed_wire}
use Rattle.daemon_jobs.specs.declared.jobs.Job.{Job}
use Rattle.daemon_jobs.specs.declared.jobs.Job.TheVariants as job

-- A link that was as the net hands it out was served to this end, and closed.
pub record WasServed (roster : RosterOf) (can_give : ℕ → Bool) (shards : ℕ → List TableId) (offers : ℕ → TableId) (wire : WireOf) (end : SessionEnd) : Type 0 where
  pub before : WireOf
  pub after : WireOf
  pub fresh : IsFresh before.faults before.ends before.empties before.given before.taken before.closed
  pub session : IsSession roster can_give true shards offers before after end
  pub closed : wire ≡ closed_wire after

-- whether the job is that of a session
abbrev pub is_session : {L : Type 0} → Job L → Bool
is_session (job.Session session) = true
is_session (job.Viewer viewer) = false
is_session (job.Worker worker) = false

-- the job of a session served its link, or nothing
abbrev pub HasRun : {L : Type 0} → (L → WireOf) → RosterOf → (ℕ → Bool) → (ℕ → List TableId) → (ℕ → TableId) → Job L → Type 0
HasRun wire roster can_give shards offers (job.Session session) = IfSome session.served (λ served. WasServed roster can_give shards offers (wire served.link) served.end)
HasRun wire roster can_give shards offers (job.Viewer viewer) = Unit {0}
HasRun wire roster can_give shards offers (job.Worker worker) = Unit {0}
