use Rattle.std.proofs.Common.{◌≡◌, ◌<◌, List, [], length, refl, sym, ap, subst, rules}
use Rattle.std.proofs.Math.ListN.{set}
use Rattle.out_table.specs.Cells.{Cells}
use Rattle.out_table.specs.Places.{cells_at}
use Rattle.out_table.specs.Columns.{DirtyOf, ColumnsOf, columns_in}
use Rattle.out_table.proofs.ColumnLemmas.{seat_of, marked_at, seen}
use Rattle.out_table.proofs.columns.Columns.clean.Goals as goal

pub index_mut-dirty-requires : goal.index_mut-dirty-requires
index_mut-dirty-requires c =
    let t = c.self.inside in
    let is : columns_in t.members t.lines t.numbers.items t.dirty.items ≡ c.args.self.now.items = ap (λ (v : ColumnsOf). v.items) c.self.view_is in
    let seat : c.args.slot < length t.dirty.items = seat_of t.members t.lines t.numbers.items t.dirty.items c.self.invariant c.args.self.now.items is c.args.slot c.requires in
    search rules

pub returns : goal.returns
returns c =
    let t = c.self.inside in
    let is : columns_in t.members t.lines t.numbers.items t.dirty.items ≡ c.args.self.now.items = ap (λ (v : ColumnsOf). v.items) c.self.view_is in
    seen (λ (l : List Cells). set l c.args.slot (let v : Cells = record { numbers = (cells_at c.args.slot l).numbers; dirty = [] } in v))
    t.members (columns_in t.members t.lines t.numbers.items t.dirty.items) (columns_in t.members t.lines t.numbers.items (set t.dirty.items c.args.slot c.clear.new.self)) c.args.self.now c.self.view_is
    (marked_at t.members t.lines t.numbers.items t.dirty.items c.self.invariant (columns_in t.members t.lines t.numbers.items t.dirty.items) refl c.args.slot
    (subst (λ (l : List Cells). c.args.slot < length l) (sym is) c.requires) (λ ps. []) c.index_mut-dirty.result.now c.clear.new.self c.index_mut-dirty.ensures.value
    (ap (λ (d : DirtyOf). d.places) c.clear.ensures))
