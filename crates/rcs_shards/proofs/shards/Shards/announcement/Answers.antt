use denote.Ref.{Bor}
use Rattle.std.proofs.Common.{sym, ap, ◌∙◌}
use Rattle.rcp_model.specs.Routes.{RouteFields}
use Rattle.rcp_model.specs.Telling.{IsRouteOf}
use Rattle.platform_laws.specs.Asked.{announced_in, announced_route}
use Rattle.rcs_shards.proofs.AskLemmas.{if-mapped, fields-announced}
use Rattle.rcs_shards.proofs.StepLemmas.{own-found}
use Rattle.rcs_shards.proofs.shards.Shards.announcement.Goals as goal

pub returns-clause-fields : goal.returns-clause-fields
returns-clause-fields c =
    let s = c.self.inside in
    if-mapped (λ (r : Bor RouteFields). r.now) (IsRouteOf c.args.self.now.roster.as_number) c.announcement.result (announced_route c.args.self.now.roster c.args.self.now.shards c.args.p c.args.slot)
    (c.announcement.ensures ∙ sym (ap (λ o. announced_in o c.args.p c.args.slot) (own-found s.roster s.view.value s.connected s.shards.items c.self.invariant c.args.self.now c.self.view_is c.args.p c.number_of.result c.number_of.ensures.number c.number_of.ensures.within c.index.result.now c.index.ensures)))
    (fields-announced s.roster s.view.value s.connected s.shards.items c.self.invariant c.args.self.now c.self.view_is c.args.slot c.args.p)
