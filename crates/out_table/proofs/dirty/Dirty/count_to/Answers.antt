use Rattle.std.proofs.Common.{◌≡◌, ◌<◌, ◌-◌, ◌+◌, length, sym, subst, deque_len, MatchResult, Result, ℕ, rules, of_calls}
use Rattle.std.specs.List.{AllByRecursion}
use Rattle.std.proofs.lemmas.Fn.{always_returns_same}
use Rattle.std.specs.List.Sorted.{IsSearchInRange}
use Rattle.out_table.specs.Columns.{DirtyOf}
use Rattle.out_table.specs.Places.{IsRising, IsPassed, order_in}
use Rattle.out_table.proofs.RisingLemmas.{passed_at, searched_passed}
use Rattle.out_table.proofs.dirty.Dirty.count_to.Goals as goal

pub returns-then-is_at : goal.returns-then-is_at
returns-then-is_at c =
    let found = c.is_at.ensures (search rules) in
    let back : c.args.guess - 1 + 1 ≡ c.args.guess = search rules in
    subst (IsPassed c.args.p.now c.args.prefixes.now c.args.self.now.places) back
    (passed_at c.args.p.now c.args.prefixes.now c.args.self.now.places (c.args.guess - 1) c.requires.rising found.0 found.1)

pub returns-in-Ok : goal.returns-in-Ok
returns-in-Ok c =
    let prefixes = c.args.prefixes.now in
    let dirty = c.self.inside.places.items in
    let below : AllByRecursion (λ place. place < length prefixes) dirty = subst (λ (v : DirtyOf). AllByRecursion (λ place. place < length prefixes) v.places) (sym c.self.view_is) c.requires.below in
    let rising : IsRising prefixes dirty = subst (λ (v : DirtyOf). IsRising prefixes v.places) (sym c.self.view_is) c.requires.rising in
    let count : deque_len c.self.inside.places ≡ length dirty = search rules in
    let bound = subst (IsSearchInRange c.binary_search_by.result) count c.binary_search_by.ensures.bound in
    let key = always_returns_same _ _ _ (λ a r f k. search (rules, of_calls)) in
    let found = c.binary_search_by.ensures.position (order_in prefixes c.args.p.now) key in
    subst (λ (v : DirtyOf). IsPassed c.args.p.now prefixes v.places (c.in-Ok.n + 1)) c.self.view_is
    (subst (λ (r : Result ℕ ℕ). MatchResult r (λ n. IsPassed c.args.p.now prefixes dirty (n + 1)) (IsPassed c.args.p.now prefixes dirty)) c.in-Ok.is
    (searched_passed c.args.p.now prefixes dirty below rising c.binary_search_by.result bound found))

pub returns-in-Err : goal.returns-in-Err
returns-in-Err c =
    let prefixes = c.args.prefixes.now in
    let dirty = c.self.inside.places.items in
    let below : AllByRecursion (λ place. place < length prefixes) dirty = subst (λ (v : DirtyOf). AllByRecursion (λ place. place < length prefixes) v.places) (sym c.self.view_is) c.requires.below in
    let rising : IsRising prefixes dirty = subst (λ (v : DirtyOf). IsRising prefixes v.places) (sym c.self.view_is) c.requires.rising in
    let count : deque_len c.self.inside.places ≡ length dirty = search rules in
    let bound = subst (IsSearchInRange c.binary_search_by.result) count c.binary_search_by.ensures.bound in
    let key = always_returns_same _ _ _ (λ a r f k. search (rules, of_calls)) in
    let found = c.binary_search_by.ensures.position (order_in prefixes c.args.p.now) key in
    subst (λ (v : DirtyOf). IsPassed c.args.p.now prefixes v.places c.in-Err.n) c.self.view_is
    (subst (λ (r : Result ℕ ℕ). MatchResult r (λ n. IsPassed c.args.p.now prefixes dirty (n + 1)) (IsPassed c.args.p.now prefixes dirty)) c.in-Err.is
    (searched_passed c.args.p.now prefixes dirty below rising c.binary_search_by.result bound found))
