-- The sessions that jobs served, and their links by places.
use Rattle.std.specs.Prelude.{◌≡◌, ℕ, ◌+◌, ◌<◌, List, [], length, All, Option, Some, IfSome, count_by, flat_map, option_to_list, slice_index_or}
use Rattle.rcp_base.specs.declared.names.Member.{Member}
use Rattle.outside.specs.Told.{followed}
use Rattle.daemon_jobs.specs.Jobs.{is_session}
use Rattle.daemon_jobs.specs.declared.jobs.Job.{Job}
use Rattle.daemon_jobs.specs.declared.jobs.Job.TheVariants as job
use Rattle.daemon_jobs.specs.declared.session.Served.{Served}
use Rattle.rcpd_run.specs.Daemons.{IsReported, links_at, links_of, report_on}

-- what a job served, where it is that of a session
abbrev pub session_in : {L : Type 0} → Job L → List (Served L)
session_in (job.Session session) = option_to_list session.served
session_in (job.Viewer viewer) = []
session_in (job.Worker worker) = []

abbrev pub sessions_in : {L : Type 0} → List (Job L) → List (Served L)
sessions_in jobs = flat_map session_in jobs

abbrev pub count_sessions : {L : Type 0} → List (Job L) → ℕ
count_sessions jobs = count_by is_session jobs

-- the rows have the links of the sessions, each at its place
pub record IsRanked {L : Type 0} (routers : ℕ) (rows : List (List L)) (sessions : List (Served L)) : Type 0 where
  pub count : length rows ≡ routers + 1
  pub each : (place : ℕ) → place < routers + 1 → slice_index_or rows place [] ≡ links_at routers place sessions

-- each session of the jobs has an end that stands in a report; the report has their lines, and their links were handed back
pub record HasReported {L : Type 0} (members : List Member) (jobs : List (Job L)) (back_before back_after : Option (List L)) (report : List ℕ) : Type 0 where
  pub all : length (sessions_in jobs) ≡ count_sessions jobs
  pub reported : All (λ (served : Served L). IsReported served.end.why) (sessions_in jobs)
  pub lines : report ≡ report_on members (sessions_in jobs)
  pub back : IfSome back_after (λ links. Some links ≡ followed back_before (links_of members (sessions_in jobs)))
