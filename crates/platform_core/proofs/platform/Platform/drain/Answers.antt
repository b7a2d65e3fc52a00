use Rattle.std.proofs.Common.{ℕ, ◌+◌, min, List, [], ◌∷◌, ◌++◌, refl, ap, ◌∙◌}
use Rattle.rcp_base.specs.Feed.{OutRecord}
use Rattle.feed_meaning.specs.OutRecords.{MOST}
use Rattle.platform_laws.specs.Asked.{all_pending}
use Rattle.platform_laws.specs.Work.{updates_to_all}
use Rattle.platform_core.specs.States.{StateOf}
use Rattle.platform_core.specs.Following.{seen_of}
use Rattle.platform_core.proofs.StepLemmas.{step_drain, steps_by, summary_is}
use Rattle.platform_core.proofs.JoinLemmas.{kept_spent, kept_joined}
use Rattle.platform_core.proofs.platform.Platform.drain.Goals as goal

pub returns-clause-steps : goal.returns-clause-steps
returns-clause-steps g c = λ item is.
    let s = c.self.inside in
    let server = s.shards in
    let after = c.work_all.new.shards in
    let out = c.add_summary.new.self in
    let more = c.saturating_add-self-inside.result in
    let old = seen_of server s.connections.sessions s.time s.links s.updates in
    let new = seen_of after s.connections.sessions s.time s.links more in
    let last = summary_is new c.connected_count.result c.announced_count.result more c.connected_count.type_inv c.connected_count.ensures c.announced_count.ensures c.saturating_add-self-inside.type_inv refl in
    steps_by old c.args.self.now.seen new new item out (ap (λ (p : StateOf). p.seen) c.self.view_is) refl
    (step_drain server after s.connections.sessions s.time s.links s.updates more item c.work_all.new.out out is
    c.in_ok-work_all.ensures.after (c.in_ok-work_all.ensures.output ∙ ap (λ (l : List OutRecord). l ++ updates_to_all server.roster (all_pending server.shards) server.shards after.shards s.connections.sessions) c.new-out.ensures)
    (c.saturating_add-self-inside.ensures ∙ ap (λ (n : ℕ). min (s.updates + n) MOST) c.len.ensures)
    (c.in_ok-add_summary.ensures ∙ ap (λ (r : OutRecord). c.work_all.new.out ++ r ∷ []) last))

pub invariant_of-self : goal.invariant_of-self
invariant_of-self g c =
    let s = c.self.inside in
    kept_spent s.shards c.work_all.new.shards s.connections s.connections s.time s.time s.links s.links s.is_spent c.work_all.ensures.kept c.self.invariant

pub invariant_of-self-2 : goal.invariant_of-self-2
invariant_of-self-2 g c =
    let s = c.self.inside in
    kept_joined s.shards c.work_all.new.shards s.connections s.time s.links s.is_spent (ap (λ (p : StateOf). p.spent) c.self.view_is ∙ c.requires.fresh) c.work_all.ensures.kept c.self.invariant

pub invariant_of-self-in_err-add_summary : goal.invariant_of-self-in_err-add_summary
invariant_of-self-in_err-add_summary g c =
    let s = c.self.inside in
    kept_spent s.shards c.work_all.new.shards s.connections s.connections s.time s.time s.links s.links s.is_spent c.work_all.ensures.kept c.self.invariant
