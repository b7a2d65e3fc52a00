-- What a run of the daemon comes to.
use Rattle.std.specs.Prelude.{◌≡◌, ◌==◌, ◌⊎◌, ℕ, suc, Bool, List, [], ◌∷◌, ◌++◌, length, map, All, Option, Some, Ok, Err, IfSome, if◌then◌else◌}
use Rattle.std.specs.List.{flat_map}
use Rattle.atomic_table.specs.Seated.{TableId}
use Rattle.rcp_base.specs.Roster.{RosterOf}
use Rattle.rcp_base.specs.declared.names.Member.{Member}
use Rattle.outside.specs.Told.{Rose, behind, followed}
use Rattle.outbox.specs.Wires.{WireOf}
use Rattle.feed_format.specs.Writing.{WritesLess}
use Rattle.feed_format.specs.declared.status.Status.{Status}
use Rattle.feed_format.specs.declared.status.Status.TheVariants as status
use Rattle.roster_source.specs.Reading.{roster_in}
use Rattle.session_serve.specs.declared.ends.EndWhy.{EndWhy}
use Rattle.session_serve.specs.declared.ends.EndWhy.TheVariants as why
use Rattle.session_report.specs.Reports.{place_of, report_of}
use Rattle.daemon_jobs.specs.Jobs.{WasServed}
use Rattle.daemon_jobs.specs.declared.session.Served.{Served}

-- ---- the roster

-- The status for these octets of a roster: Roster with the first fault of their text, which is TooMany at line 1 where they are too many;
-- and a roster without a fault where the daemon served. Read and NoMemory come at any time.
abbrev pub IsStatusFor : List ℕ → Status → Type 0
IsStatusFor octets status.Done = (roster : RosterOf) × (roster_in octets ≡ Ok roster)
IsStatusFor octets status.Write = (roster : RosterOf) × (roster_in octets ≡ Ok roster)
IsStatusFor octets status.NetFault = (roster : RosterOf) × (roster_in octets ≡ Ok roster)
IsStatusFor octets (status.Roster number line fault) = (number ≡ 1) × (roster_in octets ≡ Err (record { line = line; why = fault }))
IsStatusFor octets status.Read = Unit {0}
IsStatusFor octets status.NoMemory = Unit {0}
IsStatusFor octets status.Usage = ⊥
IsStatusFor octets (status.Feed number why) = ⊥
IsStatusFor octets (status.NoPath refusal) = ⊥

-- ---- the sessions

-- the end of a session stands in a report: it wasn't stopped, and it had memory
abbrev pub IsReported : EndWhy → Type 0
IsReported (why.Fault code sub) = Unit {0}
IsReported (why.Received code sub) = Unit {0}
IsReported why.PeerClosed = Unit {0}
IsReported (why.SeatOut out) = Unit {0}
IsReported why.LinkFault = Unit {0}
IsReported why.Stopped = ⊥
IsReported why.NoMemory = ⊥

-- Sessions in the order in which their links were accepted. The links of those that stand at a place of the report:
abbrev pub link_at : {L : Type 0} → (routers place : ℕ) → Served L → List L
link_at routers place served = if place_of routers served.end.slot == place then served.link ∷ [] else []

abbrev pub links_at : {L : Type 0} → (routers place : ℕ) → List (Served L) → List L
links_at routers place sessions = flat_map (link_at routers place) sessions

-- the links by the places of some members, of which the first has this place, and then those of no router
abbrev pub links_from : {L : Type 0} → (routers place : ℕ) → List Member → List (Served L) → List L
links_from routers place [] sessions = links_at routers place sessions
links_from routers place (member ∷ members) sessions = links_at routers place sessions ++ links_from routers (suc place) members sessions

-- the links in the order of the report's lines
abbrev pub links_of : {L : Type 0} → List Member → List (Served L) → List L
links_of members sessions = links_from (length members) 0 members sessions

-- the text of their ends
abbrev pub report_on : {L : Type 0} → List Member → List (Served L) → List ℕ
report_on members sessions = report_of members (map (λ served. served.end) sessions)

-- As many sessions as were wanted were served, each on a link of its own, with the mailboxes of one book. Where the links that were handed
-- back are known, they are those of the report's lines, in their order.
pub record HaveServed {L : Type 0} (wire : L → WireOf) (roster : RosterOf) (can_give : ℕ → Bool) (wanted : ℕ) (back_before back_after : Option (List L)) (sessions : List (Served L)) : Type 0 where
  pub shards : ℕ → List TableId
  pub offers : ℕ → TableId
  pub count : length sessions ≡ wanted
  pub served : All (λ (served : Served L). WasServed roster can_give shards offers (wire served.link) served.end) sessions
  pub reported : All (λ (served : Served L). IsReported served.end.why) sessions
  pub back : IfSome back_after (λ links. Some links ≡ followed back_before (links_of roster.members sessions))

-- ---- the whole run

-- On Done the whole report was written, on Write a front of it and not all.
abbrev pub WroteReport : Status → List ℕ → Option (List ℕ) → Option (List ℕ) → Type 0
WroteReport status.Write report before after = WritesLess report before after
WroteReport status report before after = after ≡ behind before report

-- the daemon came to its report
abbrev pub ReachesReport : Status → Type 0
ReachesReport result = (result ≡ status.Done) ⊎ (result ≡ status.Write)

-- the statuses of a daemon: Feed and NoPath are those of other programs
abbrev pub IsOfDaemon : Status → Type 0
IsOfDaemon status.Done = Unit {0}
IsOfDaemon status.Usage = Unit {0}
IsOfDaemon (status.Feed number why) = ⊥
IsOfDaemon (status.Roster number line fault) = Unit {0}
IsOfDaemon status.Read = Unit {0}
IsOfDaemon status.Write = Unit {0}
IsOfDaemon status.NoMemory = Unit {0}
IsOfDaemon (status.NoPath refusal) = ⊥
IsOfDaemon status.NetFault = Unit {0}

-- a fault of the source, the sink or the net is answered only where there was one
pub record HasCause (result : Status) (source_before source_after sink_before sink_after net_before net_after : ℕ) : Type 0 where
  pub read : result ≡ status.Read → Rose source_before source_after
  pub write : result ≡ status.Write → Rose sink_before sink_after
  pub net : result ≡ status.NetFault → Rose net_before net_after
