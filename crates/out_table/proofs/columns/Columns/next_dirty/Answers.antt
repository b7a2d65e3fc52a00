use Rattle.std.proofs.Common.{◌≡◌, ℕ, ◌<◌, ◌&&◌, List, length, sym, ap, subst, rules}
use Rattle.std.specs.Option.{option_map}
use Rattle.std.specs.List.{AllByRecursion}
use Rattle.out_table.specs.Tables.{IsLeast, is_after}
use Rattle.out_table.specs.Places.{prefix_in, IsRising, is_listed}
use Rattle.out_table.specs.Columns.{ColumnsOf, columns_in}
use Rattle.out_table.proofs.ColumnLemmas.{seat_of, dirty_read}
use Rattle.out_table.proofs.columns.Columns.next_dirty.Goals as goal

pub index-requires : goal.index-requires
index-requires c =
    let t = c.self.inside in
    let is : columns_in t.members t.lines t.numbers.items t.dirty.items ≡ c.args.self.now.items = ap (λ (v : ColumnsOf). v.items) c.self.view_is in
    let seat : c.args.slot < length t.dirty.items = seat_of t.members t.lines t.numbers.items t.dirty.items c.self.invariant c.args.self.now.items is c.args.slot c.requires.slot in
    search rules

pub next-requires-clause-below : goal.next-requires-clause-below
next-requires-clause-below c =
    let t = c.self.inside in
    let is : columns_in t.members t.lines t.numbers.items t.dirty.items ≡ c.args.self.now.items = ap (λ (v : ColumnsOf). v.items) c.self.view_is in
    subst (AllByRecursion (λ place. place < length c.args.prefixes.now)) (sym (dirty_read t.members t.lines t.numbers.items t.dirty.items c.self.invariant c.args.self.now.items is c.args.slot c.requires.slot c.index.result.now c.index.ensures)) c.requires.below

pub next-requires-clause-rising : goal.next-requires-clause-rising
next-requires-clause-rising c =
    let t = c.self.inside in
    let is : columns_in t.members t.lines t.numbers.items t.dirty.items ≡ c.args.self.now.items = ap (λ (v : ColumnsOf). v.items) c.self.view_is in
    subst (IsRising c.args.prefixes.now) (sym (dirty_read t.members t.lines t.numbers.items t.dirty.items c.self.invariant c.args.self.now.items is c.args.slot c.requires.slot c.index.result.now c.index.ensures)) c.requires.rising

pub returns-clause-least : goal.returns-clause-least
returns-clause-least c =
    let t = c.self.inside in
    let is : columns_in t.members t.lines t.numbers.items t.dirty.items ≡ c.args.self.now.items = ap (λ (v : ColumnsOf). v.items) c.self.view_is in
    subst (λ (ps : List ℕ). IsLeast (λ q. is_after c.args.after q && is_listed q c.args.prefixes.now ps) (option_map (prefix_in c.args.prefixes.now) c.next.result)) (dirty_read t.members t.lines t.numbers.items t.dirty.items c.self.invariant c.args.self.now.items is c.args.slot c.requires.slot c.index.result.now c.index.ensures) c.next.ensures.least
