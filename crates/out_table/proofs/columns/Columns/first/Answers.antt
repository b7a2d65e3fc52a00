use Rattle.std.proofs.Common.{◌≡◌, ◌<◌, length, ap, ◌∙◌, rules}
use Rattle.out_table.specs.Cells.{first_of}
use Rattle.out_table.specs.Columns.{ColumnsOf, columns_in}
use Rattle.out_table.proofs.ColumnLemmas.{seat_of, dirty_read}
use Rattle.out_table.proofs.columns.Columns.first.Goals as goal

pub index-requires : goal.index-requires
index-requires c =
    let t = c.self.inside in
    let is : columns_in t.members t.lines t.numbers.items t.dirty.items ≡ c.args.self.now.items = ap (λ (v : ColumnsOf). v.items) c.self.view_is in
    let seat : c.args.slot < length t.dirty.items = seat_of t.members t.lines t.numbers.items t.dirty.items c.self.invariant c.args.self.now.items is c.args.slot c.requires in
    search rules

pub returns : goal.returns
returns c =
    let t = c.self.inside in
    let is : columns_in t.members t.lines t.numbers.items t.dirty.items ≡ c.args.self.now.items = ap (λ (v : ColumnsOf). v.items) c.self.view_is in
    c.first.ensures ∙ ap first_of (dirty_read t.members t.lines t.numbers.items t.dirty.items c.self.invariant c.args.self.now.items is c.args.slot c.requires c.index.result.now c.index.ensures)
