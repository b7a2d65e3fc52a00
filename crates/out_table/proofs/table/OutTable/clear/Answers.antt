use Rattle.std.proofs.Common.{◌≡◌, ℕ, ◌<◌, ◌≤◌, [], length, replicate, refl, sym, ap, subst, ◌∙◌, rules}
use Rattle.std.proofs.Math.ListN.{set}
use Rattle.out_table.specs.Cells.{Cells, no_number}
use Rattle.out_table.specs.Columns.{ColumnsOf}
use Rattle.out_table.specs.Tables.{Table, cleared}
use Rattle.out_table.specs.Places.{cells_at, IsKept, table_of}
use Rattle.out_table.proofs.TableLemmas.{table-clear, kept-clear, table_kept, clear_past}
use Rattle.out_table.proofs.table.OutTable.clear.Goals as goal

pub invariant_of-self : goal.invariant_of-self
invariant_of-self c =
    let t = c.self.inside in
    let less : c.slot.inside.0 < length t.columns.items = search rules in
    let none : Cells = record { numbers = replicate (length (cells_at c.slot.inside.0 t.columns.items).numbers) no_number; dirty = [] } in
    subst (λ (v : ColumnsOf). IsKept v.members t.room t.places.entries t.prefixes.items v.items) (sym c.clear.ensures)
    (table_kept t.columns.members t.room t.places.entries t.prefixes.items t.columns.items c.slot.inside.0 none c.self.invariant less
    (kept-clear t.room (length (cells_at c.slot.inside.0 t.columns.items).numbers) t.prefixes.items (cells_at c.slot.inside.0 t.columns.items) none (c.self.invariant.each c.slot.inside.0 less) refl refl))

pub returns-then-slot-len : goal.returns-then-slot-len
returns-then-slot-len c =
    let t = c.self.inside in
    let less : c.slot.inside.0 < length t.columns.items = search rules in
    let none : Cells = record { numbers = replicate (length (cells_at c.slot.inside.0 t.columns.items).numbers) no_number; dirty = [] } in
    let after : Table = table_of t.columns.members t.places.entries t.prefixes.items (set t.columns.items c.slot.inside.0 none) in
    ap (λ (v : ColumnsOf). table_of v.members t.places.entries t.prefixes.items v.items) c.clear.ensures
    ∙ subst (λ (u : Table). after ≡ cleared c.args.slot u) c.self.view_is
    (subst (λ (s : ℕ). after ≡ cleared s (table_of t.columns.members t.places.entries t.prefixes.items t.columns.items)) c.slot.view_is
    (table-clear t.columns.members t.room c.slot.inside.0 (length (cells_at c.slot.inside.0 t.columns.items).numbers) t.places.entries t.prefixes.items t.columns.items none c.self.invariant less refl))

pub returns-else-slot-len : goal.returns-else-slot-len
returns-else-slot-len c =
    let t = c.self.inside in
    let past : length t.columns.items ≤ c.slot.inside.0 = search rules in
    subst (λ (u : Table). u ≡ cleared c.args.slot u) c.self.view_is
    (subst (λ (s : ℕ). table_of t.columns.members t.places.entries t.prefixes.items t.columns.items ≡ cleared s (table_of t.columns.members t.places.entries t.prefixes.items t.columns.items)) c.slot.view_is
    (clear_past t.columns.members t.room c.slot.inside.0 t.places.entries t.prefixes.items t.columns.items c.self.invariant past))
