use Rattle.std.proofs.Common.{◌<◌, length, eqb, position, ap, sym, ◌∙◌, arith}
use Rattle.rcp_base.specs.declared.names.Member.{Member}
use Rattle.rcp_base.specs.Roster.{RosterOf}
use Rattle.rcp_base.specs.Roster.{slot_from}
use Rattle.roster.proofs.SlotLemmas.{own_place, first-slot}
use Rattle.roster.proofs.rosters.Roster.member.Goals as goal
use Rattle.roster.proofs.rosters.Roster.member.Goals.{After-get}

within : (c : After-get) → c.args.slot < length c.self.inside.members
within c = omega (arith, ap (λ (roster : RosterOf). length roster.members) c.self.view_is, c.requires)

pub returns-clause-router : goal.returns-clause-router
returns-clause-router c =
    ap (λ (roster : RosterOf). slot_from 0 roster.members c.get.result.router) (sym c.self.view_is)
    ∙ first-slot c.self.inside.members c.get.result.router
    ∙ own_place (λ (m : Member). m.router) c.self.inside.members c.args.slot c.get.result c.self.invariant.members.routers (within c) c.get.ensures

pub returns-clause-identifier : goal.returns-clause-identifier
returns-clause-identifier c =
    ap (λ (roster : RosterOf). position (λ (m : Member). eqb m.bgp_id c.get.result.bgp_id) roster.members) (sym c.self.view_is)
    ∙ own_place (λ (m : Member). m.bgp_id) c.self.inside.members c.args.slot c.get.result c.self.invariant.members.identifiers (within c) c.get.ensures
