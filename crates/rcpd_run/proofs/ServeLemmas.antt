-- What the jobs left is what the sessions came to.
use Rattle.std.proofs.Common.{◌≡◌, ℕ, zero, suc, Bool, List, [], ◌∷◌, map, All, Option, Some, None, IfSome, option_to_list, sym, ap, subst, ◌∙◌, arith}
use Rattle.std.specs.Prelude.{cond, sum}
use Rattle.std.proofs.lemmas.List.Sums.{sum-map}
use Rattle.std.proofs.lemmas.Simd.{map-map}
use Rattle.std.proofs.lemmas.List.Elements.{All-append}
use Rattle.atomic_table.specs.Seated.{TableId}
use Rattle.rcp_base.specs.Roster.{RosterOf}
use Rattle.outside.specs.Told.{followed}
use Rattle.outbox.specs.Wires.{WireOf}
use Rattle.daemon_jobs.specs.Jobs.{WasServed, is_session, HasRun}
use Rattle.daemon_jobs.specs.declared.jobs.Job.{Job}
use Rattle.daemon_jobs.specs.declared.jobs.Job.TheVariants as job
use Rattle.daemon_jobs.specs.declared.session.Served.{Served}
use Rattle.rcpd_run.specs.Daemons.{HaveServed, report_on, links_of}
use Rattle.rcpd_run.specs.Ends.{session_in, sessions_in, count_sessions, HasReported}

module _ {L : Type 0} (wire : L → WireOf) (roster : RosterOf) (can_give : ℕ → Bool) (shards : ℕ → List TableId) (offers : ℕ → TableId) where
  abbrev IsServed : Served L → Type 0
  IsServed served = WasServed roster can_give shards offers (wire served.link) served.end

  served_one : (served : Option (Served L)) → IfSome served IsServed → All IsServed (option_to_list served)
  served_one None is k d within = absurd (omega (arith, within))
  served_one (Some served) is zero d within = is
  served_one (Some served) is (suc k) d within = absurd (omega (arith, within))

  served_by : (job : Job L) → HasRun wire roster can_give shards offers job → All IsServed (session_in job)
  served_by (job.Session session) ran = served_one session.served ran
  served_by (job.Viewer viewer) ran = λ k d within. absurd (omega (arith, within))
  served_by (job.Worker worker) ran = λ k d within. absurd (omega (arith, within))

  served_all : (jobs : List (Job L)) → All (HasRun wire roster can_give shards offers) jobs → All IsServed (sessions_in jobs)
  served_all [] ran = λ k d within. absurd (omega (arith, within))
  served_all (job ∷ jobs) ran =
      All-append IsServed (session_in job) (sessions_in jobs) (served_by job (ran 0 job (omega arith)))
      (served_all jobs (λ k d within. ran (suc k) d (omega (arith, within))))

abbrev one : Bool → ℕ
one session = cond session 1 0

counted : {L : Type 0} (jobs : List (Job L)) → count_sessions jobs ≡ sum (map one (map is_session jobs))
counted jobs = sym (sum-map (λ (j : Job _). one (is_session j)) jobs) ∙ ap sum (sym (map-map one is_session jobs))

same_count : {L : Type 0} (xs ys : List (Job L)) → map is_session ys ≡ map is_session xs → count_sessions ys ≡ count_sessions xs
same_count xs ys same = counted ys ∙ ap (λ l. sum (map one l)) same ∙ sym (counted xs)

pub have_served : {L : Type 0} (wire : L → WireOf) (roster shared_roster : RosterOf) (can_give shared_can_give : ℕ → Bool) (shards : ℕ → List TableId) (offers : ℕ → TableId)
    (wanted : ℕ) (before after : List (Job L)) (back_before back_run back_after : Option (List L)) (report : List ℕ)
    → shared_roster ≡ roster → shared_can_give ≡ can_give → count_sessions before ≡ wanted → map is_session after ≡ map is_session before
    → All (HasRun wire shared_roster shared_can_give shards offers) after → back_run ≡ back_before → HasReported roster.members after back_run back_after report
    → (served : List (Served L)) × HaveServed wire roster can_give wanted back_before back_after served × (report ≡ report_on roster.members served)
have_served wire roster shared_roster can_give shared_can_give shards offers wanted before after back_before back_run back_after report
    same_roster same_clock count kinds ran same_back reported =
    let run = subst (λ r. All (HasRun wire r can_give shards offers) after) same_roster (subst (λ f. All (HasRun wire shared_roster f shards offers) after) same_clock ran) in (
      sessions_in after,
      record {
        shards = shards;
        offers = offers;
        count = reported.all ∙ same_count before after kinds ∙ count;
        served = served_all wire roster can_give shards offers after run;
        reported = reported.reported;
        back = subst (λ b. IfSome back_after (λ links. Some links ≡ followed b (links_of roster.members (sessions_in after)))) same_back reported.back;
      },
      reported.lines,
    )
