use Rattle.std.proofs.Common.{ℕ, ◌+◌, ◌++◌, min, refl, sym, ap, subst, ◌∙◌}
use Rattle.rcp_base.specs.declared.kinds.Kind.{Kind}
use Rattle.feed_meaning.specs.OutRecords.{MOST}
use Rattle.feed_meaning.specs.Work.{shard_in, count_in}
use Rattle.platform_laws.specs.Work.{updates_to_all}
use Rattle.rcs_shards.specs.Servers.{worked, least_pending}
use Rattle.platform_core.specs.States.{StateOf, Steps}
use Rattle.platform_core.specs.Following.{seen_of}
use Rattle.platform_core.proofs.StepLemmas.{step_slice, steps_by}
use Rattle.platform_core.proofs.JoinLemmas.{kept_spent, kept_joined}
use Rattle.platform_core.proofs.platform.Platform.work_slice.Goals as goal

pub returns-clause-steps : goal.returns-clause-steps
returns-clause-steps c = λ item is body_is.
    let s = c.self.inside in
    let server = s.shards in
    let after = c.work_slice.new.shards in
    let out = c.work_slice.new.out in
    let more = c.saturating_add-self-inside.result in
    let old = seen_of server s.connections.sessions s.time s.links s.updates in
    let new = seen_of after s.connections.sessions s.time s.links more in
    let shard = c.read_slice-number.ensures.shard ∙ ap shard_in (sym body_is) in
    let count = c.read_slice-number.ensures.count ∙ ap count_in (sym body_is) in
    steps_by old c.args.self.now.seen new new item out (ap (λ (p : StateOf). p.seen) c.self.view_is) refl
    (subst (λ (k : Kind). Steps old new (record { kind = k; source = item.source; body = item.body }) out) (sym is)
    (step_slice server after s.connections.sessions s.time s.links s.updates more item.source item.body out
    (c.in_ok-work_slice.ensures.after ∙ (λ i. worked (least_pending (shard i) (count i) server) server))
    (c.in_ok-work_slice.ensures.output ∙ (λ i. c.new-out.ensures i ++ updates_to_all server.roster (least_pending (shard i) (count i) server) server.shards after.shards s.connections.sessions))
    (c.saturating_add-self-inside.ensures ∙ ap (λ (n : ℕ). min (s.updates + n) MOST) c.len.ensures)))

pub invariant_of-self : goal.invariant_of-self
invariant_of-self c =
    let s = c.self.inside in
    kept_spent s.shards c.work_slice.new.shards s.connections s.connections s.time s.time s.links s.links s.is_spent c.work_slice.ensures.kept c.self.invariant

pub invariant_of-self-2 : goal.invariant_of-self-2
invariant_of-self-2 c =
    let s = c.self.inside in
    kept_joined s.shards c.work_slice.new.shards s.connections s.time s.links s.is_spent (ap (λ (p : StateOf). p.spent) c.self.view_is ∙ c.requires.fresh) c.work_slice.ensures.kept c.self.invariant
