use Rattle.std.proofs.Common.{◌≡◌, ◌<◌, ◌≤◌, List, length, insert, refl, sym, ap, subst, arith, rules}
use Rattle.std.proofs.Math.ListN.{set}
use Rattle.out_table.specs.Cells.{Cells}
use Rattle.out_table.specs.Places.{cells_at}
use Rattle.out_table.specs.Columns.{DirtyOf, ColumnsOf, columns_in}
use Rattle.out_table.proofs.ColumnLemmas.{seat_of, dirty_read, room_read, marked_at, seen}
use Rattle.out_table.proofs.columns.Columns.mark.Goals as goal

pub index_mut-dirty-requires : goal.index_mut-dirty-requires
index_mut-dirty-requires c =
    let t = c.self.inside in
    let is : columns_in t.members t.lines t.numbers.items t.dirty.items ≡ c.args.self.now.items = ap (λ (v : ColumnsOf). v.items) c.self.view_is in
    let seat : c.args.slot < length t.dirty.items = seat_of t.members t.lines t.numbers.items t.dirty.items c.self.invariant c.args.self.now.items is c.args.slot c.requires.slot in
    search rules

pub mark-requires-clause-within : goal.mark-requires-clause-within
mark-requires-clause-within c =
    let t = c.self.inside in
    let is : columns_in t.members t.lines t.numbers.items t.dirty.items ≡ c.args.self.now.items = ap (λ (v : ColumnsOf). v.items) c.self.view_is in
    subst (λ ps. c.args.gap ≤ length ps) (sym (dirty_read t.members t.lines t.numbers.items t.dirty.items c.self.invariant c.args.self.now.items is c.args.slot c.requires.slot c.index_mut-dirty.result.now c.index_mut-dirty.ensures.value)) c.requires.within

pub mark-requires-clause-room : goal.mark-requires-clause-room
mark-requires-clause-room c =
    let t = c.self.inside in
    let is : columns_in t.members t.lines t.numbers.items t.dirty.items ≡ c.args.self.now.items = ap (λ (v : ColumnsOf). v.items) c.self.view_is in
    let room = room_read t.members t.lines t.numbers.items t.dirty.items c.self.invariant c.args.self.now.items is c.args.slot c.requires.slot c.index_mut-dirty.result.now c.index_mut-dirty.ensures.value in
    let count = ap length (dirty_read t.members t.lines t.numbers.items t.dirty.items c.self.invariant c.args.self.now.items is c.args.slot c.requires.slot c.index_mut-dirty.result.now c.index_mut-dirty.ensures.value) in
    let less = c.requires.room in
    omega (arith, room, count, less)

pub returns : goal.returns
returns c =
    let t = c.self.inside in
    let is : columns_in t.members t.lines t.numbers.items t.dirty.items ≡ c.args.self.now.items = ap (λ (v : ColumnsOf). v.items) c.self.view_is in
    seen (λ (l : List Cells). set l c.args.slot (let v : Cells = record { numbers = (cells_at c.args.slot l).numbers; dirty = insert (cells_at c.args.slot l).dirty c.args.gap c.args.place } in v))
    t.members (columns_in t.members t.lines t.numbers.items t.dirty.items) (columns_in t.members t.lines t.numbers.items (set t.dirty.items c.args.slot c.mark.new.self)) c.args.self.now c.self.view_is
    (marked_at t.members t.lines t.numbers.items t.dirty.items c.self.invariant (columns_in t.members t.lines t.numbers.items t.dirty.items) refl c.args.slot
    (subst (λ (l : List Cells). c.args.slot < length l) (sym is) c.requires.slot) (λ ps. insert ps c.args.gap c.args.place) c.index_mut-dirty.result.now c.mark.new.self c.index_mut-dirty.ensures.value
    (ap (λ (d : DirtyOf). d.places) c.mark.ensures))
