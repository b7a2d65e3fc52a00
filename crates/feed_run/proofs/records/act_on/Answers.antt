use Rattle.std.proofs.Common.{sym, ap, ◌∙◌, ◌≡◌}
use Rattle.std.proofs.lemmas.Result.{IfOk-weaker}
use Rattle.rcp_base.specs.Feed.{FeedRecord}
use Rattle.rcp_base.specs.declared.kinds.Kind.TheVariants as kind
use Rattle.feed_run.proofs.DrainLemmas.{drain-after, drain-out}
use Rattle.feed_run.proofs.records.act_on.Goals as goal

pub returns-in-Drain-clause-after : goal.returns-in-Drain-clause-after
returns-in-Drain-clause-after g c =
    let is : c.args.item.now.kind ≡ kind.Drain = ap (λ (r : FeedRecord). r.kind) (sym c.item.view_is) ∙ c.in-Drain.is in
    IfOk-weaker c.drain_all.result _ _ (λ outs steps. λ defined seen.
    drain-after defined c.args.platform.now.seen c.drain_all.new.self.seen c.args.item.now outs.items is steps seen) c.drain_all.ensures.steps

pub returns-in-Drain-clause-output : goal.returns-in-Drain-clause-output
returns-in-Drain-clause-output g c =
    let is : c.args.item.now.kind ≡ kind.Drain = ap (λ (r : FeedRecord). r.kind) (sym c.item.view_is) ∙ c.in-Drain.is in
    IfOk-weaker c.drain_all.result _ _ (λ outs steps. λ defined seen.
    drain-out defined c.args.platform.now.seen c.drain_all.new.self.seen c.args.item.now outs.items is steps seen) c.drain_all.ensures.steps
