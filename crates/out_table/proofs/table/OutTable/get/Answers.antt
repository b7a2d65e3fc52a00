use Rattle.std.proofs.Common.{◌<◌, length, refl, sym, ◌∙◌}
use Rattle.out_table.specs.Places.{cells_at}
use Rattle.out_table.proofs.FoundLemmas.{cell_by, found_slot, found_cell, number_none, number_some}
use Rattle.out_table.proofs.table.OutTable.get.Goals as goal

pub returns-in_err-place : goal.returns-in_err-place
returns-in_err-place c =
    let t = c.self.inside in
    c.from_residual.ensures
    ∙ sym (cell_by c.args.self.now t.columns.members t.places.entries t.prefixes.items t.columns.items c.self.view_is c.self.invariant.inverse.sorted c.args.slot c.args.slot refl c.args.p
    ∙ number_none c.args.p t.places.entries (cells_at c.args.slot t.columns.items).numbers c.in_err-place.ensures)

pub number-requires-clause-slot : goal.number-requires-clause-slot
number-requires-clause-slot c =
    let t = c.self.inside in
    found_slot c.args.self.now t.columns.members t.room t.places.entries t.prefixes.items t.columns.items c.self.view_is c.self.invariant c.args.p c.in_ok-place.place c.in_ok-place.ensures
    c.slot.inside.0 c.args.slot c.slot.view_is c.requires

pub number-requires-clause-place : goal.number-requires-clause-place
number-requires-clause-place c =
    let t = c.self.inside in
    let less : c.slot.inside.0 < length t.columns.items =
    found_slot c.args.self.now t.columns.members t.room t.places.entries t.prefixes.items t.columns.items c.self.view_is c.self.invariant c.args.p c.in_ok-place.place c.in_ok-place.ensures
    c.slot.inside.0 c.args.slot c.slot.view_is c.requires in
    found_cell t.columns.members t.room t.places.entries t.prefixes.items t.columns.items c.self.invariant c.args.p c.in_ok-place.place c.in_ok-place.ensures c.slot.inside.0 less

pub returns : goal.returns
returns c =
    let t = c.self.inside in
    c.number.ensures
    ∙ sym (cell_by c.args.self.now t.columns.members t.places.entries t.prefixes.items t.columns.items c.self.view_is c.self.invariant.inverse.sorted c.slot.inside.0 c.args.slot c.slot.view_is c.args.p
    ∙ number_some c.args.p t.places.entries (cells_at c.slot.inside.0 t.columns.items).numbers c.in_ok-place.place c.in_ok-place.ensures)
