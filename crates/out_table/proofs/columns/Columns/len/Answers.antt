use Rattle.std.proofs.Common.{◌≡◌, length, sym, ap, ◌∙◌, rules}
use Rattle.out_table.specs.Columns.{ColumnsOf, columns_in}
use Rattle.out_table.proofs.ColumnLemmas.{length_columns}
use Rattle.out_table.proofs.columns.Columns.len.Goals as goal

pub returns : goal.returns
returns c =
    let t = c.self.inside in
    let is : columns_in t.members t.lines t.numbers.items t.dirty.items ≡ c.args.self.now.items = ap (λ (v : ColumnsOf). v.items) c.self.view_is in
    let count : c.len.result ≡ length t.dirty.items = search rules in
    count ∙ sym (length_columns t.members t.lines t.numbers.items t.dirty.items) ∙ ap length is
