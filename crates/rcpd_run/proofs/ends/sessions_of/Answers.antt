use Rattle.std.proofs.Common.{◌≡◌, [], ◌∷◌, length, option_to_list, sym, ap, subst, ◌∙◌, All}
use Rattle.daemon_jobs.specs.declared.session.Served.{Served}
use Rattle.rcpd_run.specs.Daemons.{IsReported}
use Rattle.rcpd_run.proofs.EndsLemmas.{served_on, counted_on, all_with}
use Rattle.rcpd_run.proofs.ends.sessions_of.Goals as goal

pub loop-job-preserved-in-Continue-branch-3 : goal.loop-job-preserved-in-Continue-branch-3
loop-job-preserved-in-Continue-branch-3 g c =
    let so_far = c.loop-job.invariant in
    let new = c.in_ok-served.ensures in
    let one : option_to_list c.in_ok-served.field-0 ≡ c.in-Some-2.served ∷ [] = ap option_to_list c.in-Some-2.is in
    record {
      iterator = (tt, tt);
      sessions = served_on c.loop-job.yielded c.in-Some.job _ _ _ so_far.sessions c.in_ok-push.ensures.items (sym one ∙ new.served);
      all = counted_on c.loop-job.yielded c.in-Some.job _ _ _ so_far.all c.in_ok-push.ensures.items (ap length (sym one) ∙ new.count);
      reported = all_with (λ (served : Served _). IsReported served.end.why) _ _ _ so_far.reported
          (subst (All (λ (served : Served _). IsReported served.end.why)) one new.reported) c.in_ok-push.ensures.items;
    }
