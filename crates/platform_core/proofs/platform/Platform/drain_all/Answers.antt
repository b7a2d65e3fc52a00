use Rattle.std.proofs.Common.{List, refl, sym, subst, ◌∙◌}
use Rattle.rcp_base.specs.Feed.{OutRecord}
use Rattle.platform_core.specs.States.{Steps, drain_record}
use Rattle.platform_core.proofs.platform.Platform.drain_all.Goals as goal

pub returns-clause-after : goal.returns-clause-after
returns-clause-after g c = (c.in_ok-out.ensures.steps drain_record refl).after

pub returns-clause-output : goal.returns-clause-output
returns-clause-output g c = c.into_records.ensures.items ∙ (c.in_ok-out.ensures.steps drain_record refl).output

pub returns-clause-steps : goal.returns-clause-steps
returns-clause-steps g c =
    subst (λ (out : List OutRecord). Steps c.args.self.now.seen c.drain_by.new.self.seen drain_record out) (sym c.into_records.ensures.items)
    (c.in_ok-out.ensures.steps drain_record refl)
