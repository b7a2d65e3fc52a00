use Rattle.std.proofs.Common.{◌≡◌, ◌<◌, ◌^◌, not, List, length, refl, sym, ap, ◌∙◌, subst, rules}
use Rattle.std.proofs.Math.ListN.{set}
use Rattle.rcp_model.specs.Ribs.{route_no_of}
use Rattle.out_table.specs.Cells.{Cells, is_same, held_for}
use Rattle.out_table.specs.Places.{cells_at}
use Rattle.out_table.specs.Columns.{ColumnsOf, columns_in, index_of}
use Rattle.out_table.proofs.ColumnLemmas.{index_in, read_at, written_at, seen, same_held}
use Rattle.out_table.proofs.columns.Columns.write.Goals as goal

pub index-at-requires : goal.index-at-requires
index-at-requires c =
    let t = c.self.inside in
    let is : columns_in t.members t.lines t.numbers.items t.dirty.items ≡ c.args.self.now.items = ap (λ (v : ColumnsOf). v.items) c.self.view_is in
    let within : index_of t.members c.args.slot c.args.place < length t.numbers.items = index_in t.members t.lines t.numbers.items t.dirty.items c.self.invariant c.args.self.now.items is c.args.slot c.requires.slot c.args.place c.requires.place in
    search rules

pub index-requires : goal.index-requires
index-requires c =
    let t = c.self.inside in
    let is : columns_in t.members t.lines t.numbers.items t.dirty.items ≡ c.args.self.now.items = ap (λ (v : ColumnsOf). v.items) c.self.view_is in
    let within : index_of t.members c.args.slot c.args.place < length t.numbers.items = index_in t.members t.lines t.numbers.items t.dirty.items c.self.invariant c.args.self.now.items is c.args.slot c.requires.slot c.args.place c.requires.place in
    let less : c.index-at.result < length t.numbers.items = subst (λ n. n < length t.numbers.items) (sym c.index-at.ensures) within in
    search rules

pub index_mut-requires : goal.index_mut-requires
index_mut-requires c =
    let t = c.self.inside in
    let is : columns_in t.members t.lines t.numbers.items t.dirty.items ≡ c.args.self.now.items = ap (λ (v : ColumnsOf). v.items) c.self.view_is in
    let within : index_of t.members c.args.slot c.args.place < length t.numbers.items = index_in t.members t.lines t.numbers.items t.dirty.items c.self.invariant c.args.self.now.items is c.args.slot c.requires.slot c.args.place c.requires.place in
    let less : c.index-at.result < length t.numbers.items = subst (λ n. n < length t.numbers.items) (sym c.index-at.ensures) within in
    search rules

pub returns-clause-changed : goal.returns-clause-changed
returns-clause-changed c =
    let t = c.self.inside in
    let is : columns_in t.members t.lines t.numbers.items t.dirty.items ≡ c.args.self.now.items = ap (λ (v : ColumnsOf). v.items) c.self.view_is in
    let within : index_of t.members c.args.slot c.args.place < length t.numbers.items = index_in t.members t.lines t.numbers.items t.dirty.items c.self.invariant c.args.self.now.items is c.args.slot c.requires.slot c.args.place c.requires.place in
    let less : c.index-at.result < length t.numbers.items = subst (λ n. n < length t.numbers.items) (sym c.index-at.ensures) within in
    let below : c.index.result.now < 2 ^ 32 = search rules in
    ap not (same_held c.index.result.now c.held-number.result c.args.value c.held-number.ensures.held below c.held-number.ensures.small
    ∙ ap (λ n. is_same (route_no_of n) c.args.value) (sym (read_at t.members t.lines t.numbers.items t.dirty.items c.self.invariant c.args.self.now.items is c.args.slot c.requires.slot c.args.place c.index-at.result c.index.result.now c.index-at.ensures less c.index.ensures)))

pub returns-clause-cells : goal.returns-clause-cells
returns-clause-cells c =
    let t = c.self.inside in
    let is : columns_in t.members t.lines t.numbers.items t.dirty.items ≡ c.args.self.now.items = ap (λ (v : ColumnsOf). v.items) c.self.view_is in
    seen (λ (l : List Cells). set l c.args.slot (let v : Cells = record { numbers = set (cells_at c.args.slot l).numbers c.args.place (held_for c.args.value); dirty = (cells_at c.args.slot l).dirty } in v))
    t.members (columns_in t.members t.lines t.numbers.items t.dirty.items) (columns_in t.members t.lines (set t.numbers.items c.index-at.result c.held-number.result) t.dirty.items) c.args.self.now c.self.view_is
    (written_at t.members t.lines t.numbers.items t.dirty.items c.self.invariant (columns_in t.members t.lines t.numbers.items t.dirty.items) refl c.args.slot
    (subst (λ (l : List Cells). c.args.slot < length l) (sym is) c.requires.slot) c.args.place c.index-at.result c.held-number.result (held_for c.args.value) c.index-at.ensures c.held-number.ensures.held
    (subst (λ (l : List Cells). c.args.place < length (cells_at c.args.slot l).numbers) (sym is) c.requires.place))
