use Rattle.std.proofs.Common.{◌≡◌, ℕ, ◌*◌, ◌/◌, ◌^◌, ◌<◌, ◌≤◌, length, is_some, sym, ap, ◌∙◌, subst, arith, rules}
use Rattle.rcp_model.specs.Ribs.{route_no_of}
use Rattle.out_table.specs.Columns.{ColumnsOf, columns_in, index_of}
use Rattle.out_table.proofs.ColumnLemmas.{member_of, read_at, read_past, index_within, has_held}
use Rattle.out_table.proofs.columns.Columns.has_number.Goals as goal

pub returns-then-place-self : goal.returns-then-place-self
returns-then-place-self c =
    let t = c.self.inside in
    let is : columns_in t.members t.lines t.numbers.items t.dirty.items ≡ c.args.self.now.items = ap (λ (v : ColumnsOf). v.items) c.self.view_is in
    let past : t.lines * 16 ≤ c.args.place = omega (arith, c.if-place-self.true) in
    sym (ap (λ n. is_some (route_no_of n)) (read_past t.members t.lines t.numbers.items t.dirty.items c.self.invariant c.args.self.now.items is c.args.slot c.requires c.args.place past))

inside : (lines place : ℕ) → place / 16 < lines → place < lines * 16
inside lines place less = omega arith

pub index-requires : goal.index-requires
index-requires c =
    let t = c.self.inside in
    let is : columns_in t.members t.lines t.numbers.items t.dirty.items ≡ c.args.self.now.items = ap (λ (v : ColumnsOf). v.items) c.self.view_is in
    let within : index_of t.members c.args.slot c.args.place < length t.numbers.items =
    subst (λ n. index_of t.members c.args.slot c.args.place < n) (sym c.self.invariant.whole)
    (index_within t.members t.lines c.args.slot c.args.place (member_of t.members t.lines t.numbers.items t.dirty.items c.self.invariant c.args.self.now.items is c.args.slot c.requires) (inside t.lines c.args.place c.if-place-self.false)) in
    search rules

pub index-requires-2 : goal.index-requires-2
index-requires-2 c =
    let t = c.self.inside in
    let is : columns_in t.members t.lines t.numbers.items t.dirty.items ≡ c.args.self.now.items = ap (λ (v : ColumnsOf). v.items) c.self.view_is in
    let within : index_of t.members c.args.slot c.args.place < length t.numbers.items =
    subst (λ n. index_of t.members c.args.slot c.args.place < n) (sym c.self.invariant.whole)
    (index_within t.members t.lines c.args.slot c.args.place (member_of t.members t.lines t.numbers.items t.dirty.items c.self.invariant c.args.self.now.items is c.args.slot c.requires) (inside t.lines c.args.place c.if-place-self.false)) in
    let less : c.index.result < length t.numbers.items = subst (λ n. n < length t.numbers.items) (sym c.index.ensures) within in
    search rules

pub returns : goal.returns
returns c =
    let t = c.self.inside in
    let is : columns_in t.members t.lines t.numbers.items t.dirty.items ≡ c.args.self.now.items = ap (λ (v : ColumnsOf). v.items) c.self.view_is in
    let within : index_of t.members c.args.slot c.args.place < length t.numbers.items =
    subst (λ n. index_of t.members c.args.slot c.args.place < n) (sym c.self.invariant.whole)
    (index_within t.members t.lines c.args.slot c.args.place (member_of t.members t.lines t.numbers.items t.dirty.items c.self.invariant c.args.self.now.items is c.args.slot c.requires) (inside t.lines c.args.place c.if-place-self.false)) in
    let less : c.index.result < length t.numbers.items = subst (λ n. n < length t.numbers.items) (sym c.index.ensures) within in
    let below : c.index-2.result.now < 2 ^ 32 = search rules in
    has_held c.index-2.result.now below
    ∙ ap (λ n. is_some (route_no_of n)) (sym (read_at t.members t.lines t.numbers.items t.dirty.items c.self.invariant c.args.self.now.items is c.args.slot c.requires c.args.place c.index.result c.index-2.result.now c.index.ensures less c.index-2.ensures))
