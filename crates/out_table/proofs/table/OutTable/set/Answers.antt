use Rattle.std.proofs.Common.{◌≡◌, ℕ, ◌<◌, not, List, length, Option, sym, ap, subst, ◌∙◌}
use Rattle.std.proofs.Math.ListN.{set}
use Rattle.rcp_base.specs.IpPrefix.{IpPrefix}
use Rattle.out_table.specs.Cells.{Cells, held_for, is_same}
use Rattle.out_table.specs.Tables.{Table, after_set}
use Rattle.out_table.specs.Places.{cells_at, AreKept, IsKept, Sets, table_of}
use Rattle.out_table.proofs.FoundLemmas.{cell_by, found_within, found_slot, found_cell, number_some, never_none, kept_less}
use Rattle.out_table.proofs.TableLemmas.{table-set, table_kept, kept-set}
use Rattle.out_table.proofs.table.OutTable.set.Goals as goal

pub unreachable-requires : goal.unreachable-requires
unreachable-requires c =
    let t = c.self.inside in
    never_none c.args.self.now t.columns.members t.places.entries t.prefixes.items t.columns.items c.self.view_is c.args.p c.requires.opened c.in-None.ensures

pub set_cell-requires-clause-slot : goal.set_cell-requires-clause-slot
set_cell-requires-clause-slot c =
    let t = c.self.inside in
    found_slot c.args.self.now t.columns.members t.room t.places.entries t.prefixes.items t.columns.items c.self.view_is c.self.invariant c.args.p c.in-Some.place c.in-Some.ensures
    c.slot.inside.0 c.args.slot c.slot.view_is c.requires.member

pub set_cell-requires-clause-kept : goal.set_cell-requires-clause-kept
set_cell-requires-clause-kept c =
    let t = c.self.inside in
    let less : c.slot.inside.0 < length t.columns.items =
    found_slot c.args.self.now t.columns.members t.room t.places.entries t.prefixes.items t.columns.items c.self.view_is c.self.invariant c.args.p c.in-Some.place c.in-Some.ensures
    c.slot.inside.0 c.args.slot c.slot.view_is c.requires.member in
    subst (λ (ps : List IpPrefix). AreKept (length ps) ps (cells_at c.slot.inside.0 t.columns.items)) (sym c.as_slice-2.ensures.value)
    (kept_less t.room t.prefixes.items (cells_at c.slot.inside.0 t.columns.items) c.self.invariant.rows (c.self.invariant.each c.slot.inside.0 less))

pub set_cell-requires-clause-within : goal.set_cell-requires-clause-within
set_cell-requires-clause-within c =
    let t = c.self.inside in
    subst (λ (ps : List IpPrefix). c.in-Some.place < length ps) (sym c.as_slice-2.ensures.value)
    (found_within t.columns.members t.room t.places.entries t.prefixes.items t.columns.items c.self.invariant c.args.p c.in-Some.place c.in-Some.ensures)

pub invariant_of-self : goal.invariant_of-self
invariant_of-self c =
    let t = c.self.inside in
    let less : c.slot.inside.0 < length t.columns.items =
    found_slot c.args.self.now t.columns.members t.room t.places.entries t.prefixes.items t.columns.items c.self.view_is c.self.invariant c.args.p c.in-Some.place c.in-Some.ensures
    c.slot.inside.0 c.args.slot c.slot.view_is c.requires.member in
    let after = c.set_cell.ensures.after in
    let sets : Sets c.in-Some.place (held_for c.args.value) t.prefixes.items c.set_cell.result (cells_at c.slot.inside.0 t.columns.items) after.cells =
    subst (λ (ps : List IpPrefix). Sets c.in-Some.place (held_for c.args.value) ps c.set_cell.result (cells_at c.slot.inside.0 t.columns.items) after.cells) c.as_slice-2.ensures.value after.sets in
    subst (λ (l : List Cells). IsKept c.set_cell.new.columns.members t.room t.places.entries t.prefixes.items l) (sym after.is)
    (subst (λ (m : ℕ). IsKept m t.room t.places.entries t.prefixes.items (set t.columns.items c.slot.inside.0 after.cells)) (sym c.set_cell.ensures.members)
    (table_kept t.columns.members t.room t.places.entries t.prefixes.items t.columns.items c.slot.inside.0 after.cells c.self.invariant less
    (kept-set t.room c.in-Some.place (held_for c.args.value) t.prefixes.items c.set_cell.result (cells_at c.slot.inside.0 t.columns.items) after.cells (c.self.invariant.each c.slot.inside.0 less)
    (found_within t.columns.members t.room t.places.entries t.prefixes.items t.columns.items c.self.invariant c.args.p c.in-Some.place c.in-Some.ensures) sets)))

pub returns-clause-changed : goal.returns-clause-changed
returns-clause-changed c =
    let t = c.self.inside in
    c.set_cell.ensures.changed
    ∙ ap (λ (o : Option ℕ). not (is_same o c.args.value))
    (sym (cell_by c.args.self.now t.columns.members t.places.entries t.prefixes.items t.columns.items c.self.view_is c.self.invariant.inverse.sorted c.slot.inside.0 c.args.slot c.slot.view_is c.args.p
    ∙ number_some c.args.p t.places.entries (cells_at c.slot.inside.0 t.columns.items).numbers c.in-Some.place c.in-Some.ensures))

pub returns-clause-after : goal.returns-clause-after
returns-clause-after c =
    let t = c.self.inside in
    let less : c.slot.inside.0 < length t.columns.items =
    found_slot c.args.self.now t.columns.members t.room t.places.entries t.prefixes.items t.columns.items c.self.view_is c.self.invariant c.args.p c.in-Some.place c.in-Some.ensures
    c.slot.inside.0 c.args.slot c.slot.view_is c.requires.member in
    let after = c.set_cell.ensures.after in
    let sets : Sets c.in-Some.place (held_for c.args.value) t.prefixes.items c.set_cell.result (cells_at c.slot.inside.0 t.columns.items) after.cells =
    subst (λ (ps : List IpPrefix). Sets c.in-Some.place (held_for c.args.value) ps c.set_cell.result (cells_at c.slot.inside.0 t.columns.items) after.cells) c.as_slice-2.ensures.value after.sets in
    let now : Table = table_of t.columns.members t.places.entries t.prefixes.items (set t.columns.items c.slot.inside.0 after.cells) in
    (λ i. table_of (c.set_cell.ensures.members i) t.places.entries t.prefixes.items (after.is i))
    ∙ subst (λ (u : Table). now ≡ after_set c.args.slot c.args.p c.args.value u) c.self.view_is
    (subst (λ (s : ℕ). now ≡ after_set s c.args.p c.args.value (table_of t.columns.members t.places.entries t.prefixes.items t.columns.items)) c.slot.view_is
    (table-set t.columns.members c.slot.inside.0 c.in-Some.place c.args.p c.args.value t.places.entries t.prefixes.items t.columns.items c.set_cell.result after.cells
    c.self.invariant.inverse less (sym c.in-Some.ensures)
    (found_cell t.columns.members t.room t.places.entries t.prefixes.items t.columns.items c.self.invariant c.args.p c.in-Some.place c.in-Some.ensures c.slot.inside.0 less)
    c.set_cell.ensures.small c.set_cell.ensures.changed sets))
