use Rattle.std.proofs.Common.{◌≡◌, ℕ, ◌<◌, ◌≤◌, length, drop, Option, Some, None, refl, sym, ap, subst, ◌∙◌, rules}
use Rattle.std.proofs.Math.ListN.{set}
use Rattle.std.specs.Option.{option_map}
use Rattle.std.proofs.lemmas.List.{get_or_read, get_or-set_same}
use Rattle.rcp_base.specs.IpPrefix.{IpPrefix}
use Rattle.out_table.specs.Cells.{Cells, no_cells, number_at, first_of}
use Rattle.out_table.specs.Tables.{Table, cell, is_dirty, cleaned, IsLeast}
use Rattle.out_table.specs.Columns.{ColumnsOf}
use Rattle.out_table.specs.Places.{prefix_in, no_prefix, cells_at, table_of}
use Rattle.out_table.proofs.FoundLemmas.{first_below, value_by}
use Rattle.out_table.proofs.TableLemmas.{table_least, table_none, none_past, table-take}
use Rattle.out_table.proofs.table.OutTable.take_dirty.Goals as goal

pub returns-then-slot-len-clause-least : goal.returns-then-slot-len-clause-least
returns-then-slot-len-clause-least c =
    let t = c.self.inside in
    let past : length t.columns.items ≤ c.slot.inside.0 = search rules in
    subst (λ (u : Table). IsLeast (is_dirty u c.args.slot) None) c.self.view_is
    (subst (λ (s : ℕ). IsLeast (is_dirty (table_of t.columns.members t.places.entries t.prefixes.items t.columns.items) s) None) c.slot.view_is
    (table_none t.columns.members c.slot.inside.0 t.places.entries t.prefixes.items t.columns.items (none_past c.slot.inside.0 t.columns.items past)))

pub returns-in_err-place-clause-least : goal.returns-in_err-place-clause-least
returns-in_err-place-clause-least c =
    let t = c.self.inside in
    let less : c.slot.inside.0 < length t.columns.items = search rules in
    let first : first_of (cells_at c.slot.inside.0 t.columns.items).dirty ≡ None = sym c.in_err-place.ensures.value in
    subst (λ (o : Option (IpPrefix × Option ℕ)). IsLeast (is_dirty c.args.self.now c.args.slot) (option_map (λ found. found.0) o)) (sym c.from_residual.ensures)
    (subst (λ (u : Table). IsLeast (is_dirty u c.args.slot) None) c.self.view_is
    (subst (λ (s : ℕ). IsLeast (is_dirty (table_of t.columns.members t.places.entries t.prefixes.items t.columns.items) s) None) c.slot.view_is
    (table_none t.columns.members c.slot.inside.0 t.places.entries t.prefixes.items t.columns.items first)))

pub returns-clause-least : goal.returns-clause-least
returns-clause-least c =
    let t = c.self.inside in
    let less : c.slot.inside.0 < length t.columns.items = search rules in
    let first : Some c.in_ok-place.place ≡ first_of (cells_at c.slot.inside.0 t.columns.items).dirty = c.in_ok-place.ensures.value in
    let within = first_below t.room t.prefixes.items (cells_at c.slot.inside.0 t.columns.items) c.in_ok-place.place (c.self.invariant.each c.slot.inside.0 less) first in
    let read : c.index.result.now ≡ prefix_in t.prefixes.items c.in_ok-place.place = get_or_read t.prefixes.items c.in_ok-place.place c.index.result.now within c.index.ensures no_prefix in
    subst (λ (p : IpPrefix). IsLeast (is_dirty c.args.self.now c.args.slot) (Some p)) (sym read)
    (subst (λ (u : Table). IsLeast (is_dirty u c.args.slot) (Some (prefix_in t.prefixes.items c.in_ok-place.place))) c.self.view_is
    (subst (λ (s : ℕ). IsLeast (is_dirty (table_of t.columns.members t.places.entries t.prefixes.items t.columns.items) s) (Some (prefix_in t.prefixes.items c.in_ok-place.place))) c.slot.view_is
    (table_least t.columns.members t.room c.slot.inside.0 t.places.entries t.prefixes.items t.columns.items c.self.invariant less c.in_ok-place.place (sym first))))

pub returns-clause-value : goal.returns-clause-value
returns-clause-value c =
    let t = c.self.inside in
    let less : c.slot.inside.0 < length t.columns.items = search rules in
    let first : Some c.in_ok-place.place ≡ first_of (cells_at c.slot.inside.0 t.columns.items).dirty = c.in_ok-place.ensures.value in
    let within = first_below t.room t.prefixes.items (cells_at c.slot.inside.0 t.columns.items) c.in_ok-place.place (c.self.invariant.each c.slot.inside.0 less) first in
    let read : c.index.result.now ≡ prefix_in t.prefixes.items c.in_ok-place.place = get_or_read t.prefixes.items c.in_ok-place.place c.index.result.now within c.index.ensures no_prefix in
    c.number-value.ensures
    ∙ ap (λ (v : ColumnsOf). number_at c.in_ok-place.place (cells_at c.slot.inside.0 v.items).numbers) c.take_first.ensures.rest
    ∙ ap (λ (v : Cells). number_at c.in_ok-place.place v.numbers) (get_or-set_same t.columns.items c.slot.inside.0 _ no_cells less)
    ∙ value_by c.args.self.now t.columns.members t.places.entries t.prefixes.items t.columns.items c.self.view_is c.self.invariant.inverse c.slot.inside.0 c.args.slot c.slot.view_is c.in_ok-place.place within
    ∙ ap (cell c.args.self.now c.args.slot) (sym read)

pub returns-clause-after : goal.returns-clause-after
returns-clause-after c =
    let t = c.self.inside in
    let less : c.slot.inside.0 < length t.columns.items = search rules in
    let first : Some c.in_ok-place.place ≡ first_of (cells_at c.slot.inside.0 t.columns.items).dirty = c.in_ok-place.ensures.value in
    let within = first_below t.room t.prefixes.items (cells_at c.slot.inside.0 t.columns.items) c.in_ok-place.place (c.self.invariant.each c.slot.inside.0 less) first in
    let read : c.index.result.now ≡ prefix_in t.prefixes.items c.in_ok-place.place = get_or_read t.prefixes.items c.in_ok-place.place c.index.result.now within c.index.ensures no_prefix in
    let rest : Cells = record { numbers = (cells_at c.slot.inside.0 t.columns.items).numbers; dirty = drop 1 (cells_at c.slot.inside.0 t.columns.items).dirty } in
    let after : Table = table_of t.columns.members t.places.entries t.prefixes.items (set t.columns.items c.slot.inside.0 rest) in
    ap (λ (v : ColumnsOf). table_of v.members t.places.entries t.prefixes.items v.items) c.take_first.ensures.rest
    ∙ subst (λ (p : IpPrefix). after ≡ cleaned c.args.slot (Some p) c.args.self.now) (sym read)
    (subst (λ (u : Table). after ≡ cleaned c.args.slot (Some (prefix_in t.prefixes.items c.in_ok-place.place)) u) c.self.view_is
    (subst (λ (s : ℕ). after ≡ cleaned s (Some (prefix_in t.prefixes.items c.in_ok-place.place)) (table_of t.columns.members t.places.entries t.prefixes.items t.columns.items)) c.slot.view_is
    (table-take t.columns.members t.room c.slot.inside.0 c.in_ok-place.place t.places.entries t.prefixes.items t.columns.items rest c.self.invariant less (sym first) refl)))
