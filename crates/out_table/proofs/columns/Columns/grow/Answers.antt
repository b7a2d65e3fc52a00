use Rattle.std.proofs.Common.{◌≡◌, ℕ, ◌+◌, ◌*◌, ◌/◌, ◌<◌, ◌≤◌, List, length, sym, ap, refl, subst, ◌∙◌, arith, rules}
use Rattle.std.proofs.Common.{get_or}
use Rattle.std.specs.Vec.{vec_len}
use Rattle.out_table.specs.Cells.{Cells, no_number}
use Rattle.out_table.specs.Places.{cells_at, KeepsAll}
use Rattle.out_table.specs.Columns.{ColumnsOf, columns_in}
use Rattle.out_table.proofs.ColumnLemmas.{keeps_columns, roomier-trans, longer_same, lines_le, enough_there, all_there, few_there, long_at, length_columns}
use Rattle.out_table.proofs.columns.Columns.grow.Goals as goal

pub returns-then-lines-self-clause-few : goal.returns-then-lines-self-clause-few
returns-then-lines-self-clause-few c =
    let t = c.self.inside in
    subst (λ (v : ColumnsOf). length v.items ≤ v.members) c.self.view_is (few_there t.members t.lines t.numbers.items t.dirty.items c.self.invariant.few)

pub returns-then-lines-self-clause-full : goal.returns-then-lines-self-clause-full
returns-then-lines-self-clause-full c =
    let t = c.self.inside in
    subst (λ (v : ColumnsOf). length v.items ≡ v.members) c.self.view_is (all_there t.members t.lines c.args.count t.numbers.items t.dirty.items c.self.invariant c.if-lines-self.true)

pub returns-then-lines-self-clause-enough : goal.returns-then-lines-self-clause-enough
returns-then-lines-self-clause-enough c =
    let t = c.self.inside in
    subst (λ (v : ColumnsOf). (slot : ℕ) → slot < length v.items → c.args.count ≤ length (cells_at slot v.items).numbers) c.self.view_is (enough_there t.members t.lines c.args.count t.numbers.items t.dirty.items c.self.invariant c.if-lines-self.true)

pub returns-in_err-add_slots-clause-kept : goal.returns-in_err-add_slots-clause-kept
returns-in_err-add_slots-clause-kept c =
    let t = c.self.inside in
    let is : columns_in t.members t.lines t.numbers.items t.dirty.items ≡ c.args.self.now.items = ap (λ (v : ColumnsOf). v.items) c.self.view_is in
    let few : length c.add_slots.new.dirty.items ≤ t.members = subst (λ n. length c.add_slots.new.dirty.items ≤ n) c.from.ensures c.add_slots.ensures.few in
    subst (λ (l : List Cells). KeepsAll l (columns_in t.members t.lines t.numbers.items c.add_slots.new.dirty.items)) is
    (keeps_columns t.members t.lines t.lines t.numbers.items t.numbers.items t.dirty.items c.add_slots.new.dirty.items c.self.invariant
    c.add_slots.ensures.roomier few (omega arith) c.self.invariant.whole (λ k. refl))

pub returns-in_err-add_slots-clause-few : goal.returns-in_err-add_slots-clause-few
returns-in_err-add_slots-clause-few c =
    let t = c.self.inside in
    let few : length c.add_slots.new.dirty.items ≤ t.members = subst (λ n. length c.add_slots.new.dirty.items ≤ n) c.from.ensures c.add_slots.ensures.few in
    few_there t.members t.lines t.numbers.items c.add_slots.new.dirty.items few

pub returns-in_err-make_wider-clause-kept : goal.returns-in_err-make_wider-clause-kept
returns-in_err-make_wider-clause-kept c =
    let t = c.self.inside in
    let is : columns_in t.members t.lines t.numbers.items t.dirty.items ≡ c.args.self.now.items = ap (λ (v : ColumnsOf). v.items) c.self.view_is in
    let few : length c.add_slots.new.dirty.items ≤ t.members = subst (λ n. length c.add_slots.new.dirty.items ≤ n) c.from.ensures c.add_slots.ensures.few in
    let wide : length c.make_wider.new.dirty.items ≤ t.members = subst (λ n. n ≤ t.members) (sym c.make_wider.ensures.len) few in
    subst (λ (l : List Cells). KeepsAll l (columns_in t.members t.lines t.numbers.items c.make_wider.new.dirty.items)) is
    (keeps_columns t.members t.lines t.lines t.numbers.items t.numbers.items t.dirty.items c.make_wider.new.dirty.items c.self.invariant
    (roomier-trans t.dirty.items c.add_slots.new.dirty.items c.make_wider.new.dirty.items c.add_slots.ensures.roomier c.make_wider.ensures.roomier) wide (omega arith) c.self.invariant.whole (λ k. refl))

pub returns-in_err-make_wider-clause-few : goal.returns-in_err-make_wider-clause-few
returns-in_err-make_wider-clause-few c =
    let t = c.self.inside in
    let few : length c.add_slots.new.dirty.items ≤ t.members = subst (λ n. length c.add_slots.new.dirty.items ≤ n) c.from.ensures c.add_slots.ensures.few in
    let wide : length c.make_wider.new.dirty.items ≤ t.members = subst (λ n. n ≤ t.members) (sym c.make_wider.ensures.len) few in
    few_there t.members t.lines t.numbers.items c.make_wider.new.dirty.items wide

pub returns-in_err-try_reserve_exact-clause-kept : goal.returns-in_err-try_reserve_exact-clause-kept
returns-in_err-try_reserve_exact-clause-kept c =
    let t = c.self.inside in
    let is : columns_in t.members t.lines t.numbers.items t.dirty.items ≡ c.args.self.now.items = ap (λ (v : ColumnsOf). v.items) c.self.view_is in
    let few : length c.add_slots.new.dirty.items ≤ t.members = subst (λ n. length c.add_slots.new.dirty.items ≤ n) c.from.ensures c.add_slots.ensures.few in
    let wide : length c.make_wider.new.dirty.items ≤ t.members = subst (λ n. n ≤ t.members) (sym c.make_wider.ensures.len) few in
    subst (λ (l : List Cells). KeepsAll l (columns_in t.members t.lines c.try_reserve_exact.new.self.items c.make_wider.new.dirty.items)) is
    (keeps_columns t.members t.lines t.lines t.numbers.items c.try_reserve_exact.new.self.items t.dirty.items c.make_wider.new.dirty.items c.self.invariant
    (roomier-trans t.dirty.items c.add_slots.new.dirty.items c.make_wider.new.dirty.items c.add_slots.ensures.roomier c.make_wider.ensures.roomier) wide (omega arith) (ap length c.try_reserve_exact.ensures.items ∙ c.self.invariant.whole) (λ k. ap (λ (l : List ℕ). get_or l k no_number) c.try_reserve_exact.ensures.items))

pub returns-in_err-try_reserve_exact-clause-few : goal.returns-in_err-try_reserve_exact-clause-few
returns-in_err-try_reserve_exact-clause-few c =
    let t = c.self.inside in
    let few : length c.add_slots.new.dirty.items ≤ t.members = subst (λ n. length c.add_slots.new.dirty.items ≤ n) c.from.ensures c.add_slots.ensures.few in
    let wide : length c.make_wider.new.dirty.items ≤ t.members = subst (λ n. n ≤ t.members) (sym c.make_wider.ensures.len) few in
    few_there t.members t.lines c.try_reserve_exact.new.self.items c.make_wider.new.dirty.items wide

pub returns-clause-kept : goal.returns-clause-kept
returns-clause-kept c =
    let t = c.self.inside in
    let is : columns_in t.members t.lines t.numbers.items t.dirty.items ≡ c.args.self.now.items = ap (λ (v : ColumnsOf). v.items) c.self.view_is in
    let few : length c.add_slots.new.dirty.items ≤ t.members = subst (λ n. length c.add_slots.new.dirty.items ≤ n) c.from.ensures c.add_slots.ensures.few in
    let wide : length c.make_wider.new.dirty.items ≤ t.members = subst (λ n. n ≤ t.members) (sym c.make_wider.ensures.len) few in
    let n : ℕ = c.from-2.result * (c.args.count / 16 + 1) * 16 in
    let len : length c.resize.new.self.items ≡ n = search rules in
    let whole : length c.resize.new.self.items ≡ t.members * (c.args.count / 16 + 1) * 16 = len ∙ ap (λ m. m * (c.args.count / 16 + 1) * 16) c.from-2.ensures in
    let count : vec_len c.try_reserve_exact.new.self ≡ length c.try_reserve_exact.new.self.items = search rules in
    let le : t.lines ≤ c.args.count / 16 + 1 = omega (arith, c.if-lines-self.false) in
    let more : length c.try_reserve_exact.new.self.items ≤ n =
    subst (λ m. m ≤ n) (sym (ap length c.try_reserve_exact.ensures.items ∙ c.self.invariant.whole))
    (subst (λ m. t.members * t.lines * 16 ≤ m * (c.args.count / 16 + 1) * 16) (sym c.from-2.ensures) (lines_le t.members t.lines (c.args.count / 16 + 1) le)) in
    subst (λ (l : List Cells). KeepsAll l (columns_in t.members (c.args.count / 16 + 1) c.resize.new.self.items c.make_wider.new.dirty.items)) is
    (keeps_columns t.members t.lines (c.args.count / 16 + 1) t.numbers.items c.resize.new.self.items t.dirty.items c.make_wider.new.dirty.items c.self.invariant
    (roomier-trans t.dirty.items c.add_slots.new.dirty.items c.make_wider.new.dirty.items c.add_slots.ensures.roomier c.make_wider.ensures.roomier) wide le whole
    (λ k. longer_same c.try_reserve_exact.new.self.items c.resize.new.self.items n more len (λ j d less within. c.in_ok-resize.ensures.by_index.0 j d less (subst (λ m. j < m) (sym count) within))
    (λ j d past less. c.in_ok-resize.ensures.by_index.1 j d refl (subst (λ m. m ≤ j) (sym count) past) less) k
    ∙ ap (λ (l : List ℕ). get_or l k no_number) c.try_reserve_exact.ensures.items))

pub returns-clause-few : goal.returns-clause-few
returns-clause-few c =
    let t = c.self.inside in
    let few : length c.add_slots.new.dirty.items ≤ t.members = subst (λ n. length c.add_slots.new.dirty.items ≤ n) c.from.ensures c.add_slots.ensures.few in
    let wide : length c.make_wider.new.dirty.items ≤ t.members = subst (λ n. n ≤ t.members) (sym c.make_wider.ensures.len) few in
    few_there t.members (c.args.count / 16 + 1) c.resize.new.self.items c.make_wider.new.dirty.items wide

pub returns-clause-full : goal.returns-clause-full
returns-clause-full c =
    let t = c.self.inside in
    let full : length c.make_wider.new.dirty.items ≡ t.members = c.make_wider.ensures.len ∙ c.in_ok-add_slots.ensures.full ∙ c.from.ensures in
    length_columns t.members (c.args.count / 16 + 1) c.resize.new.self.items c.make_wider.new.dirty.items ∙ full

pub returns-clause-enough : goal.returns-clause-enough
returns-clause-enough c =
    let t = c.self.inside in
    λ slot less.
    subst (λ n. c.args.count ≤ n) (sym (long_at t.members (c.args.count / 16 + 1) slot c.resize.new.self.items c.make_wider.new.dirty.items
    (subst (λ n. slot < n) (length_columns t.members (c.args.count / 16 + 1) c.resize.new.self.items c.make_wider.new.dirty.items) less))) (omega arith)
