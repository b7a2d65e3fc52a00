-- Statuses of a roster that isn't read, and what a whole run comes to.
use Rattle.std.proofs.Common.{◌≡◌, ℕ, Bool, List, Option, Some, Ok, IfSome, ap, subst, ◌∙◌, inl, inr}
use Rattle.rcp_base.specs.Roster.{RosterOf}
use Rattle.feed_format.specs.declared.status.Status.{Status}
use Rattle.feed_format.specs.declared.status.Status.TheVariants as status
use Rattle.roster_source.specs.Reading.{IsRefusal, roster_in}
use Rattle.outbox.specs.Wires.{WireOf}
use Rattle.rcpd_words.specs.Words.{StandFor}
use Rattle.rcpd_words.specs.declared.settings.Settings.{Settings}
use Rattle.rcpd_words.proofs.WordLemmas.{same_settings}
use Rattle.daemon_jobs.specs.declared.session.Served.{Served}
use Rattle.rcpd_run.specs.Daemons.{IsOfDaemon, ReachesReport, HaveServed, report_on, WroteReport}

pub of_refusal : (result : Status) → IsRefusal result → IsOfDaemon result
of_refusal (status.Roster number line fault) refusal = tt
of_refusal status.Read refusal = tt
of_refusal status.NoMemory refusal = tt
of_refusal status.Done refusal = absurd refusal
of_refusal status.Usage refusal = absurd refusal
of_refusal (status.Feed number why) refusal = absurd refusal
of_refusal status.Write refusal = absurd refusal
of_refusal (status.NoPath why) refusal = absurd refusal
of_refusal status.NetFault refusal = absurd refusal

pub not_usage : (result : Status) → IsRefusal result → result ≡ status.Usage → ⊥
not_usage result refusal e = subst IsRefusal e refusal

pub not_write : (result : Status) → IsRefusal result → result ≡ status.Write → ⊥
not_write result refusal e = subst IsRefusal e refusal

pub not_net : (result : Status) → IsRefusal result → result ≡ status.NetFault → ⊥
not_net result refusal e = subst IsRefusal e refusal

pub not_reached : (result : Status) → IsRefusal result → ReachesReport result → ⊥
not_reached result refusal (inl e) = subst IsRefusal e refusal
not_reached result refusal (inr e) = subst IsRefusal e refusal

pub read_as : (left : Option (List ℕ)) (octets : List ℕ) (roster : RosterOf) → left ≡ Some octets → IfSome left (λ o. roster_in o ≡ Ok roster) → roster_in octets ≡ Ok roster
read_as left octets roster is exact = subst (λ l. IfSome l (λ o. roster_in o ≡ Ok roster)) is exact

-- ---- what was served and written, with the settings of the words

pub sessions_are : (words : List (List ℕ)) (one other : Settings) → StandFor words one → StandFor words other → one.sessions ≡ other.sessions
sessions_are words one other a b = ap (λ (s : Settings). s.sessions) (same_settings words one other a b)

-- the report that was served, and how much of it was written
pub reported : {L : Type 0} (result : Status) (wire : L → WireOf) (left : Option (List ℕ)) (roster : RosterOf) (can_give : ℕ → Bool) (sessions wanted : ℕ) (back_before back_after : Option (List L))
    (report written : List ℕ) (before after : Option (List ℕ)) → IfSome left (λ o. roster_in o ≡ Ok roster) → sessions ≡ wanted → written ≡ report
    → (served : List (Served L)) × HaveServed wire roster can_give sessions back_before back_after served × (report ≡ report_on roster.members served)
    → WroteReport result written before after
    → (r : RosterOf) × (served : List (Served L)) × ((octets : List ℕ) → left ≡ Some octets → roster_in octets ≡ Ok r)
    × HaveServed wire r can_give wanted back_before back_after served × WroteReport result (report_on r.members served) before after
reported result wire left roster can_give sessions wanted back_before back_after report written before after exact same is served wrote = (
  roster,
  served.0,
  (λ octets at. read_as left octets roster at exact),
  subst (λ (n : ℕ). HaveServed wire roster can_give n back_before back_after served.0) same served.1,
  subst (λ (l : List ℕ). WroteReport result l before after) (is ∙ served.2) wrote,
)
