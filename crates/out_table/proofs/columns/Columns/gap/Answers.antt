use Rattle.std.proofs.Common.{◌≡◌, ℕ, ◌<◌, true, List, length, MatchOption, sym, ap, subst, rules}
use Rattle.std.specs.List.{AllByRecursion}
use Rattle.out_table.specs.Places.{IsRising, IsGap, is_listed}
use Rattle.out_table.specs.Columns.{ColumnsOf, columns_in}
use Rattle.out_table.proofs.ColumnLemmas.{seat_of, dirty_read}
use Rattle.out_table.proofs.columns.Columns.gap.Goals as goal

pub index-requires : goal.index-requires
index-requires c =
    let t = c.self.inside in
    let is : columns_in t.members t.lines t.numbers.items t.dirty.items ≡ c.args.self.now.items = ap (λ (v : ColumnsOf). v.items) c.self.view_is in
    let seat : c.args.slot < length t.dirty.items = seat_of t.members t.lines t.numbers.items t.dirty.items c.self.invariant c.args.self.now.items is c.args.slot c.requires.slot in
    search rules

pub gap-requires-clause-below : goal.gap-requires-clause-below
gap-requires-clause-below c =
    let t = c.self.inside in
    let is : columns_in t.members t.lines t.numbers.items t.dirty.items ≡ c.args.self.now.items = ap (λ (v : ColumnsOf). v.items) c.self.view_is in
    subst (AllByRecursion (λ place. place < length c.args.prefixes.now)) (sym (dirty_read t.members t.lines t.numbers.items t.dirty.items c.self.invariant c.args.self.now.items is c.args.slot c.requires.slot c.index.result.now c.index.ensures)) c.requires.below

pub gap-requires-clause-rising : goal.gap-requires-clause-rising
gap-requires-clause-rising c =
    let t = c.self.inside in
    let is : columns_in t.members t.lines t.numbers.items t.dirty.items ≡ c.args.self.now.items = ap (λ (v : ColumnsOf). v.items) c.self.view_is in
    subst (IsRising c.args.prefixes.now) (sym (dirty_read t.members t.lines t.numbers.items t.dirty.items c.self.invariant c.args.self.now.items is c.args.slot c.requires.slot c.index.result.now c.index.ensures)) c.requires.rising

pub returns : goal.returns
returns c =
    let t = c.self.inside in
    let is : columns_in t.members t.lines t.numbers.items t.dirty.items ≡ c.args.self.now.items = ap (λ (v : ColumnsOf). v.items) c.self.view_is in
    subst (λ (ps : List ℕ). MatchOption c.gap.result (is_listed c.args.p.now c.args.prefixes.now ps ≡ true) (IsGap c.args.p.now c.args.prefixes.now ps)) (dirty_read t.members t.lines t.numbers.items t.dirty.items c.self.invariant c.args.self.now.items is c.args.slot c.requires.slot c.index.result.now c.index.ensures) c.gap.ensures
