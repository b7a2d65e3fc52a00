use Rattle.std.proofs.Common.{◌≡◌, length, map, sym, ap, subst, ◌∙◌}
use Rattle.daemon_jobs.specs.Jobs.{is_session}
use Rattle.shard_worker.proofs.TurnLemmas.{written_back}
use Rattle.rcpd_run.specs.Ends.{HasReported}
use Rattle.rcpd_run.proofs.NamesLemmas.{named_length}
use Rattle.rcpd_run.proofs.ServeLemmas.{have_served}
use Rattle.rcpd_run.proofs.serving.serve_with.Goals as goal

pub new-requires-clause-shards : goal.new-requires-clause-shards
new-requires-clause-shards g c slot within =
    named_length g.B.SeatNames.places g.B.SeatNames.shard_mailboxes g.B.SeatNames.offer_mailbox c.args.parts.seats.items c.args.roster.now.shards slot c.requires.named c.requires.slots within

pub returns-in-Ok-report_of-clause-served : goal.returns-in-Ok-report_of-clause-served
returns-in-Ok-report_of-clause-served g c =
    let long : length c.in-Ok-jobs_of.jobs.items ≡ c.in-Ok-jobs_of.jobs.len = sym c.in-Ok-jobs_of.jobs.ok.0 in
    let reported = subst (λ jobs. HasReported c.args.roster.now.members jobs (g.N.Net.handed_back c.run_all-accepting.new.net) (g.N.Net.handed_back c.report_of.new.net) c.in-Ok-report_of.report.items)
    (written_back c.in-Ok-jobs_of.jobs.len c.run_all-accepting.new.jobs c.in-Ok-jobs_of.jobs.items (c.run_all-accepting.auto.jobs ∙ ap length c.deref_mut.ensures.value ∙ long) long)
    c.in-Ok-report_of.ensures.served in
    have_served _ _ _ _ _ _ _ _ c.in-Ok-jobs_of.jobs.items c.run_all-accepting.new.jobs _ _ _ _
    c.in-Ok-new.ensures.0 (ap g.C.Clock.can_give c.in-Ok-new.ensures.1) c.in-Ok-jobs_of.ensures
    (c.run_all-accepting.ensures.kinds ∙ ap (map is_session) c.deref_mut.ensures.value)
    c.run_all-accepting.ensures.ran c.run_all-accepting.ensures.handed_back reported
