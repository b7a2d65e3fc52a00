use Rattle.std.proofs.Common.{◌≡◌, List, Some, get_or, slice_get, sym, ap, ◌∙◌}
use Rattle.rcp_base.specs.declared.names.Member.{Member}
use Rattle.replica_law.proofs.RosterLemmas.{unseated, identifier_found}
use Rattle.replica_law.proofs.seats.Seats.identifier.Goals as goal

pub returns-in_err-slot : goal.returns-in_err-slot
returns-in_err-slot c = c.from_residual.ensures ∙ sym (unseated c.args.self.now c.args.router (sym c.in_err-slot.ensures.slot))

pub returns : goal.returns
returns c =
    identifier_found c.args.self.now c.args.router c.in_ok-slot.slot c.index.result.now c.in_ok-slot.ensures.slot
    (rw (← c.self.view_is, ← c.slot-2.view_is) c.index.ensures)
