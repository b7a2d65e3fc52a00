use Rattle.std.proofs.Common.{◌≡◌, ℕ, ◌<◌, ◌≤◌, [], length, refl, sym, ap, subst, ◌∙◌, rules}
use Rattle.std.proofs.Math.ListN.{set}
use Rattle.out_table.specs.Cells.{Cells}
use Rattle.out_table.specs.Columns.{ColumnsOf}
use Rattle.out_table.specs.Tables.{Table, unmarked}
use Rattle.out_table.specs.Places.{cells_at, IsKept, table_of}
use Rattle.out_table.proofs.TableLemmas.{table-clean, kept-clean, table_kept, clean_past}
use Rattle.out_table.proofs.table.OutTable.clean.Goals as goal

pub invariant_of-self : goal.invariant_of-self
invariant_of-self c =
    let t = c.self.inside in
    let less : c.slot.inside.0 < length t.columns.items = search rules in
    let none : Cells = record { numbers = (cells_at c.slot.inside.0 t.columns.items).numbers; dirty = [] } in
    subst (λ (v : ColumnsOf). IsKept v.members t.room t.places.entries t.prefixes.items v.items) (sym c.clean.ensures)
    (table_kept t.columns.members t.room t.places.entries t.prefixes.items t.columns.items c.slot.inside.0 none c.self.invariant less
    (kept-clean t.room t.prefixes.items (cells_at c.slot.inside.0 t.columns.items) none (c.self.invariant.each c.slot.inside.0 less) refl))

pub returns-then-slot-len : goal.returns-then-slot-len
returns-then-slot-len c =
    let t = c.self.inside in
    let less : c.slot.inside.0 < length t.columns.items = search rules in
    let none : Cells = record { numbers = (cells_at c.slot.inside.0 t.columns.items).numbers; dirty = [] } in
    let after : Table = table_of t.columns.members t.places.entries t.prefixes.items (set t.columns.items c.slot.inside.0 none) in
    ap (λ (v : ColumnsOf). table_of v.members t.places.entries t.prefixes.items v.items) c.clean.ensures
    ∙ subst (λ (u : Table). after ≡ unmarked c.args.slot u) c.self.view_is
    (subst (λ (s : ℕ). after ≡ unmarked s (table_of t.columns.members t.places.entries t.prefixes.items t.columns.items)) c.slot.view_is
    (table-clean t.columns.members t.room c.slot.inside.0 t.places.entries t.prefixes.items t.columns.items none c.self.invariant less refl))

pub returns-else-slot-len : goal.returns-else-slot-len
returns-else-slot-len c =
    let t = c.self.inside in
    let past : length t.columns.items ≤ c.slot.inside.0 = search rules in
    subst (λ (u : Table). u ≡ unmarked c.args.slot u) c.self.view_is
    (subst (λ (s : ℕ). table_of t.columns.members t.places.entries t.prefixes.items t.columns.items ≡ unmarked s (table_of t.columns.members t.places.entries t.prefixes.items t.columns.items)) c.slot.view_is
    (clean_past t.columns.members c.slot.inside.0 t.places.entries t.prefixes.items t.columns.items c.self.invariant.inverse.sorted past))
