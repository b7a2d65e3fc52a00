use Rattle.std.proofs.Common.{◌≡◌, ℕ, length, map, All, Some, IfSome, sym, ap, subst, ◌∙◌}
use Rattle.outside.specs.Told.{followed}
use Rattle.session_report.specs.Reports.{report_of}
use Rattle.daemon_jobs.specs.declared.session.Served.{Served}
use Rattle.rcpd_run.specs.Daemons.{IsReported, links_of}
use Rattle.rcpd_run.specs.Ends.{IsRanked}
use Rattle.rcpd_run.proofs.EndsLemmas.{ranked_links}
use Rattle.rcpd_run.proofs.serving.report_of.Goals as goal

pub returns-clause-served : goal.returns-clause-served
returns-clause-served g c =
    let taken = c.in_ok-sessions.ensures in
    let members = c.args.roster.now.members in
    let ranked = subst (λ (n : ℕ). IsRanked n (map (λ row. row.items) c.in_ok-ends.field-0.links.items) c.in_ok-sessions.sessions.items) c.len.ensures.len c.in_ok-ends.ensures.links in
    record {
      all = ap length (sym taken.sessions) ∙ taken.all;
      reported = subst (All (λ (served : Served _). IsReported served.end.why)) taken.sessions taken.reported;
      lines = c.in_ok-report.ensures ∙ ap (report_of members) (c.deref.ensures.value ∙ c.in_ok-ends.ensures.ends ∙ ap (map (λ (served : Served _). served.end)) taken.sessions);
      back = subst (λ links. IfSome (g.N.Net.handed_back c.hand_back.new.net) (λ l. Some l ≡ followed (g.N.Net.handed_back c.args.net.now) links))
          (ranked_links members _ _ ranked ∙ ap (links_of members) taken.sessions) c.hand_back.ensures.back;
    }
