use denote.Ref.{Bor}
use Rattle.std.proofs.Common.{sym, ap, ◌∙◌}
use Rattle.rcp_model.specs.Routes.{RouteFields}
use Rattle.rcp_model.specs.Telling.{IsRouteOf}
use Rattle.platform_laws.specs.Asked.{given_in, given_route}
use Rattle.rcs_shards.proofs.AskLemmas.{if-mapped, fields-given}
use Rattle.rcs_shards.proofs.StepLemmas.{own-found, own-member}
use Rattle.rcs_shards.proofs.shards.Shards.table.Goals as goal

pub table-requires : goal.table-requires
table-requires c =
    let s = c.self.inside in
    own-member s.roster s.view.value s.connected s.shards.items c.self.invariant c.args.self.now c.self.view_is c.args.p c.number_of.result c.number_of.ensures.number c.number_of.ensures.within c.index.result.now c.index.ensures c.args.slot c.requires

pub returns-clause-route : goal.returns-clause-route
returns-clause-route c =
    let s = c.self.inside in
    c.table.ensures.route ∙ sym (ap (λ o. given_in o c.args.p c.args.slot) (own-found s.roster s.view.value s.connected s.shards.items c.self.invariant c.args.self.now c.self.view_is c.args.p c.number_of.result c.number_of.ensures.number c.number_of.ensures.within c.index.result.now c.index.ensures))

pub returns-clause-fields : goal.returns-clause-fields
returns-clause-fields c =
    let s = c.self.inside in
    if-mapped (λ (r : Bor RouteFields). r.now) (IsRouteOf c.args.self.now.roster.as_number) c.table.result (given_route c.args.self.now.roster c.args.self.now.shards c.args.p c.args.slot)
    (c.table.ensures.route ∙ sym (ap (λ o. given_in o c.args.p c.args.slot) (own-found s.roster s.view.value s.connected s.shards.items c.self.invariant c.args.self.now c.self.view_is c.args.p c.number_of.result c.number_of.ensures.number c.number_of.ensures.within c.index.result.now c.index.ensures)))
    (fields-given s.roster s.view.value s.connected s.shards.items c.self.invariant c.args.self.now c.self.view_is c.args.slot c.args.p)
