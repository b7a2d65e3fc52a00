use Rattle.std.proofs.Common.{sym, subst, ◌∙◌}
use Rattle.feed_meaning.specs.Runs.{act}
use Rattle.platform_laws.specs.Platforms.{PlatformOf, IsSeen}
use Rattle.platform_laws.proofs.RecordSteps.{seen-act, act-out}
use Rattle.platform_core.proofs.platform.Platform.step.Goals as goal

pub returns-clause-after : goal.returns-clause-after
returns-clause-after c = λ platform seen.
    let steps = c.in_ok-out.ensures.steps in
    let item = c.args.item.now in
    subst (λ (s : PlatformOf). IsSeen (act platform item).after s) (sym steps.after)
    (seen-act platform c.args.self.now.seen item steps.state steps.edges seen c.act.ensures.octets steps.linked)

pub returns-clause-output : goal.returns-clause-output
returns-clause-output c = λ platform seen.
    let steps = c.in_ok-out.ensures.steps in
    c.into_records.ensures.items ∙ steps.output
    ∙ sym (act-out platform c.args.self.now.seen c.args.item.now steps.state steps.edges seen c.act.ensures.octets steps.linked)
