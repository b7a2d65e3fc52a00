use Rattle.std.proofs.Common.{◌≡◌, ℕ, ◌<◌, ◌≤◌, length, Option, Some, None, sym, ap, subst, ◌∙◌, rules}
use Rattle.std.specs.Option.{option_map}
use Rattle.std.proofs.lemmas.List.{get_or_read}
use Rattle.rcp_base.specs.IpPrefix.{IpPrefix}
use Rattle.out_table.specs.Cells.{first_of}
use Rattle.out_table.specs.Tables.{Table, cell, is_dirty, IsLeast}
use Rattle.out_table.specs.Places.{prefix_in, no_prefix, cells_at, table_of}
use Rattle.out_table.proofs.FoundLemmas.{first_below, value_by}
use Rattle.out_table.proofs.TableLemmas.{table_least, table_none, none_past}
use Rattle.out_table.proofs.table.OutTable.least_dirty.Goals as goal

pub returns-then-slot-len-clause-least : goal.returns-then-slot-len-clause-least
returns-then-slot-len-clause-least c =
    let t = c.self.inside in
    let past : length t.columns.items ≤ c.slot.inside.0 = search rules in
    subst (λ (u : Table). IsLeast (is_dirty u c.args.slot) None) c.self.view_is
    (subst (λ (s : ℕ). IsLeast (is_dirty (table_of t.columns.members t.places.entries t.prefixes.items t.columns.items) s) None) c.slot.view_is
    (table_none t.columns.members c.slot.inside.0 t.places.entries t.prefixes.items t.columns.items (none_past c.slot.inside.0 t.columns.items past)))

pub returns-in_err-place-clause-least : goal.returns-in_err-place-clause-least
returns-in_err-place-clause-least c =
    let t = c.self.inside in
    let less : c.slot.inside.0 < length t.columns.items = search rules in
    let first : first_of (cells_at c.slot.inside.0 t.columns.items).dirty ≡ None = sym c.in_err-place.ensures in
    subst (λ (o : Option (IpPrefix × Option ℕ)). IsLeast (is_dirty c.args.self.now c.args.slot) (option_map (λ found. found.0) o)) (sym c.from_residual.ensures)
    (subst (λ (u : Table). IsLeast (is_dirty u c.args.slot) None) c.self.view_is
    (subst (λ (s : ℕ). IsLeast (is_dirty (table_of t.columns.members t.places.entries t.prefixes.items t.columns.items) s) None) c.slot.view_is
    (table_none t.columns.members c.slot.inside.0 t.places.entries t.prefixes.items t.columns.items first)))

pub returns-clause-least : goal.returns-clause-least
returns-clause-least c =
    let t = c.self.inside in
    let less : c.slot.inside.0 < length t.columns.items = search rules in
    let first : Some c.in_ok-place.place ≡ first_of (cells_at c.slot.inside.0 t.columns.items).dirty = c.in_ok-place.ensures in
    let within = first_below t.room t.prefixes.items (cells_at c.slot.inside.0 t.columns.items) c.in_ok-place.place (c.self.invariant.each c.slot.inside.0 less) first in
    let read : c.index.result.now ≡ prefix_in t.prefixes.items c.in_ok-place.place = get_or_read t.prefixes.items c.in_ok-place.place c.index.result.now within c.index.ensures no_prefix in
    subst (λ (p : IpPrefix). IsLeast (is_dirty c.args.self.now c.args.slot) (Some p)) (sym read)
    (subst (λ (u : Table). IsLeast (is_dirty u c.args.slot) (Some (prefix_in t.prefixes.items c.in_ok-place.place))) c.self.view_is
    (subst (λ (s : ℕ). IsLeast (is_dirty (table_of t.columns.members t.places.entries t.prefixes.items t.columns.items) s) (Some (prefix_in t.prefixes.items c.in_ok-place.place))) c.slot.view_is
    (table_least t.columns.members t.room c.slot.inside.0 t.places.entries t.prefixes.items t.columns.items c.self.invariant less c.in_ok-place.place (sym first))))

pub returns-clause-value : goal.returns-clause-value
returns-clause-value c =
    let t = c.self.inside in
    let less : c.slot.inside.0 < length t.columns.items = search rules in
    let first : Some c.in_ok-place.place ≡ first_of (cells_at c.slot.inside.0 t.columns.items).dirty = c.in_ok-place.ensures in
    let within = first_below t.room t.prefixes.items (cells_at c.slot.inside.0 t.columns.items) c.in_ok-place.place (c.self.invariant.each c.slot.inside.0 less) first in
    let read : c.index.result.now ≡ prefix_in t.prefixes.items c.in_ok-place.place = get_or_read t.prefixes.items c.in_ok-place.place c.index.result.now within c.index.ensures no_prefix in
    c.number-value.ensures
    ∙ value_by c.args.self.now t.columns.members t.places.entries t.prefixes.items t.columns.items c.self.view_is c.self.invariant.inverse c.slot.inside.0 c.args.slot c.slot.view_is c.in_ok-place.place within
    ∙ ap (cell c.args.self.now c.args.slot) (sym read)
