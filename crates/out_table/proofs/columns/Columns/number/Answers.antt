use Rattle.std.proofs.Common.{◌≡◌, ◌<◌, length, sym, ap, ◌∙◌, subst, rules}
use Rattle.rcp_model.specs.Ribs.{route_no_of}
use Rattle.out_table.specs.Columns.{ColumnsOf, columns_in, index_of}
use Rattle.out_table.proofs.ColumnLemmas.{index_in, read_at}
use Rattle.out_table.proofs.columns.Columns.number.Goals as goal

pub index-at-requires : goal.index-at-requires
index-at-requires c =
    let t = c.self.inside in
    let is : columns_in t.members t.lines t.numbers.items t.dirty.items ≡ c.args.self.now.items = ap (λ (v : ColumnsOf). v.items) c.self.view_is in
    let within : index_of t.members c.args.slot c.args.place < length t.numbers.items = index_in t.members t.lines t.numbers.items t.dirty.items c.self.invariant c.args.self.now.items is c.args.slot c.requires.slot c.args.place c.requires.place in
    search rules

pub index-requires : goal.index-requires
index-requires c =
    let t = c.self.inside in
    let is : columns_in t.members t.lines t.numbers.items t.dirty.items ≡ c.args.self.now.items = ap (λ (v : ColumnsOf). v.items) c.self.view_is in
    let within : index_of t.members c.args.slot c.args.place < length t.numbers.items = index_in t.members t.lines t.numbers.items t.dirty.items c.self.invariant c.args.self.now.items is c.args.slot c.requires.slot c.args.place c.requires.place in
    let less : c.index-at.result < length t.numbers.items = subst (λ n. n < length t.numbers.items) (sym c.index-at.ensures) within in
    search rules

pub returns : goal.returns
returns c =
    let t = c.self.inside in
    let is : columns_in t.members t.lines t.numbers.items t.dirty.items ≡ c.args.self.now.items = ap (λ (v : ColumnsOf). v.items) c.self.view_is in
    let within : index_of t.members c.args.slot c.args.place < length t.numbers.items = index_in t.members t.lines t.numbers.items t.dirty.items c.self.invariant c.args.self.now.items is c.args.slot c.requires.slot c.args.place c.requires.place in
    let less : c.index-at.result < length t.numbers.items = subst (λ n. n < length t.numbers.items) (sym c.index-at.ensures) within in
    c.new.ensures ∙ ap route_no_of (sym (read_at t.members t.lines t.numbers.items t.dirty.items c.self.invariant c.args.self.now.items is c.args.slot c.requires.slot c.args.place c.index-at.result c.index.result.now c.index-at.ensures less c.index.ensures))
