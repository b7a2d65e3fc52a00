use Rattle.std.proofs.Common.{◌≡◌, ◌<◌, length, true, sym, subst, deque_len, MatchOption, MatchResult, Result, Ok, Err, ℕ, Option, rules, of_calls, ◌∙◌}
use Rattle.std.specs.List.{AllByRecursion}
use Rattle.std.specs.Result.{result_err}
use Rattle.std.proofs.lemmas.Fn.{always_returns_same}
use Rattle.std.specs.List.Sorted.{IsSearchInRange}
use Rattle.out_table.specs.Columns.{DirtyOf}
use Rattle.out_table.specs.Places.{IsRising, IsGap, is_listed, order_in}
use Rattle.out_table.proofs.RisingLemmas.{searched_gap, above_last}
use Rattle.out_table.proofs.dirty.Dirty.gap.Goals as goal

as_option : (r : Result ℕ ℕ) (P : Type 0) (Q : ℕ → Type 0) → MatchResult r (λ _. P) Q → MatchOption (result_err r) P Q
as_option (Ok k) P Q h = h
as_option (Err k) P Q h = h

pub returns-in-Less : goal.returns-in-Less
returns-in-Less c =
    let prefixes = c.args.prefixes.now in
    let dirty = c.self.inside.places.items in
    let below : AllByRecursion (λ place. place < length prefixes) dirty = subst (λ (v : DirtyOf). AllByRecursion (λ place. place < length prefixes) v.places) (sym c.self.view_is) c.requires.below in
    let rising : IsRising prefixes dirty = subst (λ (v : DirtyOf). IsRising prefixes v.places) (sym c.self.view_is) c.requires.rising in
    let count : c.len.result ≡ length dirty = search rules in
    let some : 0 < c.len.result = search rules in
    let last = c.in-Some.ensures.lookup in
    subst (λ (v : DirtyOf). IsGap c.args.p.now prefixes v.places c.len.result) c.self.view_is
    (above_last c.args.p.now prefixes dirty c.len.result c.in-Some.place.now below rising count some (rw c.len.ensures last) (sym c.order_at-last.ensures ∙ c.in-Less.is))

pub returns-in-Greater : goal.returns-in-Greater
returns-in-Greater c =
    let prefixes = c.args.prefixes.now in
    let dirty = c.self.inside.places.items in
    let below : AllByRecursion (λ place. place < length prefixes) dirty = subst (λ (v : DirtyOf). AllByRecursion (λ place. place < length prefixes) v.places) (sym c.self.view_is) c.requires.below in
    let rising : IsRising prefixes dirty = subst (λ (v : DirtyOf). IsRising prefixes v.places) (sym c.self.view_is) c.requires.rising in
    let count : deque_len c.self.inside.places ≡ length dirty = search rules in
    let bound = subst (IsSearchInRange c.binary_search_by.result) count c.binary_search_by.ensures.bound in
    let key = always_returns_same _ _ _ (λ a r f k. search (rules, of_calls)) in
    let found = c.binary_search_by.ensures.position (order_in prefixes c.args.p.now) key in
    subst (λ (v : DirtyOf). MatchOption c.err.result (is_listed c.args.p.now prefixes v.places ≡ true) (IsGap c.args.p.now prefixes v.places)) c.self.view_is
    (subst (λ (o : Option ℕ). MatchOption o (is_listed c.args.p.now prefixes dirty ≡ true) (IsGap c.args.p.now prefixes dirty)) (sym c.err.ensures.value)
    (as_option c.binary_search_by.result (is_listed c.args.p.now prefixes dirty ≡ true) (IsGap c.args.p.now prefixes dirty)
    (searched_gap c.args.p.now prefixes dirty below rising c.binary_search_by.result bound found)))
