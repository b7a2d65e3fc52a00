use Rattle.std.proofs.Common.{ap, sym, ◌∙◌}
use Rattle.rcp_base.specs.Roster.{RosterOf}
use Rattle.rcp_base.specs.Roster.{slot_from}
use Rattle.roster.proofs.SlotLemmas.{first-slot}
use Rattle.roster.proofs.rosters.Roster.slot_of.Goals as goal

pub returns-clause-slot : goal.returns-clause-slot
returns-clause-slot c =
    c.slot_of.ensures.place ∙ sym (first-slot c.self.inside.members c.args.router)
    ∙ ap (λ (roster : RosterOf). slot_from 0 roster.members c.args.router) c.self.view_is
