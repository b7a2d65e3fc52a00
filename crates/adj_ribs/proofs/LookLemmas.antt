-- What is found in the stores, in terms of the bases.
use Rattle.std.proofs.Common.{◌≡◌, ℕ, zero, suc, ◌<◌, ◌==◌, ◌&&◌, Bool, true, false, cond, List, [], ◌∷◌, length, Option, Some, None, is_some, IsSome, IfSome, refl, sym, ap, subst, ◌∙◌, arith}
use Rattle.std.specs.Prelude.{slice_index_or, ◌↔◌, T}
use Rattle.std.specs.List.{AllPairs, Contains}
use Rattle.std.specs.Option.{option_map}
use Rattle.std.specs.FinMap as map_of
use Rattle.std.specs.FinMap.Entries.{find, is_sorted, below_all}
use Rattle.std.specs.FinSet as set_of
use Rattle.std.specs.Ordering.{nat_cmp, is_lt, is_le, is_gt}
use Rattle.std.specs.Cmp.{unsigned_tied, ranked}
use Rattle.std.specs.declared.cmp.Ordering.{Ordering}
use Rattle.std.specs.declared.cmp.Ordering.TheVariants.{Less, Equal, Greater}
use Rattle.std.proofs.lemmas.Bool.{and_parts, and_from, eq-eqb, eqb-true, ne_eqb}
use Rattle.rcp_base.specs.IpPrefix.{IpPrefix, prefix_cmp}
use Rattle.rcp_model.specs.Assigned as assigned
use Rattle.rcp_model.specs.Ribs.{RibKey, RouteNumbers, rib_cmp}
use Rattle.rcp_model.specs.Routes.{RouteFields}
use Rattle.rcp_model.specs.ServerRibs.{Rib, Prefixes}
use Rattle.attr_store.specs.Kept.{KeptRoutes, route_at, IsLive, HasEachOnce}
use Rattle.route_store.specs.Next as next
use Rattle.route_store.specs.Announcers.{announcers_of}
use Rattle.route_store.proofs.AnnouncerLemmas.{find-announcers, rising-announcers}
use Rattle.out_table.specs.Tables as tables
use Rattle.out_table.proofs.RisingLemmas.{back}
use Rattle.out_table.specs.Tables.{Table}
use Rattle.adj_ribs.specs.Bases.{Bases, AreNumbered, is_dirty, IsLeastDirty, IsNextDirty}
use Rattle.adj_ribs.specs.Joins.{route_in, routes_of, bases_of, AreOpened}
use Rattle.adj_ribs.proofs.RouteLemmas.{get_routes, in_route, one_number}
use Rattle.adj_ribs.proofs.JoinLemmas.{announced_is, given_is}

-- ---- the route of a number

pub found_route : (routes : KeptRoutes) (o : Option ℕ) (n : ℕ) (r : RouteFields) → Some n ≡ o → IsLive routes n → route_at routes n ≡ Some r → Some r ≡ option_map (route_in routes) o
found_route routes o n r is live at = sym at ∙ sym (in_route routes n live) ∙ ap (option_map (route_in routes)) is

pub there_is : (f : ℕ → RouteFields) (o : Option ℕ) → is_some (option_map f o) ≡ is_some o
there_is f None = refl
there_is f (Some n) = refl

pub none_found : {A : Type 0} {B : Type 0} (f : A → B) (o : Option A) → o ≡ None → option_map f o ≡ None
none_found f None e = refl
none_found f (Some a) e = absurd (let f = e in cc)

module _ (routes : KeptRoutes) (numbers : RouteNumbers) (table : Table) (b : Bases) (view : bases_of routes numbers table ≡ b) (key : RibKey) where
  pub there_announced : is_some (map_of.get numbers key) ≡ is_some (map_of.get b.announced key)
  there_announced = sym (there_is (route_in routes) (map_of.get numbers key)) ∙ ap is_some (announced_is routes numbers table b view key)

  pub there_given : is_some (map_of.get table.cells key) ≡ is_some (map_of.get b.given key)
  there_given = sym (there_is (route_in routes) (map_of.get table.cells key)) ∙ ap is_some (given_is routes numbers table b view key)

-- ---- numbers stand where routes do

module _ (routes : KeptRoutes) (once : HasEachOnce routes) (numbers : RouteNumbers) (live : (k : RibKey) (m : ℕ) → map_of.get numbers k ≡ Some m → IsLive routes m) where
  same_value : (o q : Option ℕ) → IfSome o (IsLive routes) → IfSome q (IsLive routes) → option_map (route_in routes) o ≡ option_map (route_in routes) q → o ≡ q
  same_value None None live_o live_q e = refl
  same_value None (Some n) live_o live_q e = absurd (let f = e in cc)
  same_value (Some m) None live_o live_q e = absurd (let f = e in cc)
  same_value (Some m) (Some n) live_o live_q e =
      let same : route_in routes m ≡ route_in routes n = cc in
      ap (λ (n : ℕ). Some n) (one_number routes once m n live_o live_q same)

  live_at : (k : RibKey) (o : Option ℕ) → map_of.get numbers k ≡ o → IfSome o (IsLive routes)
  live_at k None here = tt
  live_at k (Some n) here = live k n here

  pub numbered : AreNumbered numbers (routes_of routes numbers)
  numbered = record {
    held = λ k. sym (ap is_some (get_routes routes numbers k) ∙ there_is (route_in routes) (map_of.get numbers k));
    alike = λ a b. (
      λ e. get_routes routes numbers a ∙ ap (option_map (route_in routes)) e ∙ sym (get_routes routes numbers b),
      λ e. same_value (map_of.get numbers a) (map_of.get numbers b) (live_at a (map_of.get numbers a) refl) (live_at b (map_of.get numbers b) refl)
          (sym (get_routes routes numbers a) ∙ e ∙ get_routes routes numbers b),
    );
  }

pub numbered_by : (numbers numbers' : RouteNumbers) (rib rib' : Rib RouteFields) → numbers ≡ numbers' → rib ≡ rib' → AreNumbered numbers rib → AreNumbered numbers' rib'
numbered_by numbers numbers' rib rib' same_numbers same_rib are =
    subst (λ (m : RouteNumbers). AreNumbered m rib') same_numbers (subst (λ (r : Rib RouteFields). AreNumbered numbers r) same_rib are)

-- ---- the least prefix

after_is : (after : Option IpPrefix) (q : IpPrefix) → next.IsAfter after q → assigned.IsAfter after q
after_is None q later = tt
after_is (Some p) q later = later

is_after : (after : Option IpPrefix) (q : IpPrefix) → assigned.IsAfter after q → next.IsAfter after q
is_after None q later = tt
is_after (Some p) q later = later

greater : (p q : IpPrefix) → prefix_cmp q p ≡ Less → is_gt (prefix_cmp p q) ≡ false → ⊥
greater p q less not_greater = let g : is_gt (prefix_cmp p q) ≡ true = ap is_gt (back q p less) in let no : true ≡ false = sym g ∙ not_greater in absurd cc

pub next_is : (P Q : IpPrefix → Type 0) → ((q : IpPrefix) → P q → Q q) → ((q : IpPrefix) → Q q → P q) → (after result : Option IpPrefix) → next.IsNext P after result
    → assigned.IsLeast (λ q. assigned.IsAfter after q × Q q) result
next_is P Q to from after None none = λ q holds. none q (is_after after q holds.0) (from q holds.1)
next_is P Q to from after (Some p) least = (
  (after_is after p least.later, to p least.one),
  λ q holds less. greater p q less (least.least q (is_after after q holds.0) (from q holds.1)),
)

pub next_opened : (numbers : RouteNumbers) (opened : Prefixes) → AreOpened numbers opened → (P : IpPrefix → Type 0) → ((q : IpPrefix) → P q → (slot : ℕ) × IsSome (map_of.get numbers (q, slot)))
    → (after result : Option IpPrefix) → next.IsNext P after result → IfSome result (λ p. set_of.contains opened p ≡ true)
next_opened numbers opened all P to after None none = tt
next_opened numbers opened all P to after (Some p) least = let at = to p least.one in all (p, at.0) at.1

not_le : (p q : IpPrefix) → prefix_cmp q p ≡ Less → is_le (prefix_cmp p q) ≡ true → ⊥
not_le p q less le = let g : is_le (prefix_cmp p q) ≡ false = ap is_le (back q p less) in let no : true ≡ false = sym le ∙ g in absurd cc

pub least_is : (test : IpPrefix → Bool) (Q : IpPrefix → Type 0) → ((q : IpPrefix) → test q ≡ true → Q q) → ((q : IpPrefix) → Q q → test q ≡ true) → (result : Option IpPrefix)
    → tables.IsLeast test result → assigned.IsLeast Q result
least_is test Q to from None none = λ q holds. let no : true ≡ false = sym (from q holds) ∙ none q in absurd cc
least_is test Q to from (Some p) least = (to p least.0, λ q holds less. not_le p q less (least.1 q (from q holds)))

pub lt_less : (o : Ordering) → is_lt o ≡ true → o ≡ Less
lt_less Less e = refl
lt_less Equal e = absurd (let f = e in cc)
lt_less Greater e = absurd (let f = e in cc)

pub later_is : (after : Option IpPrefix) (q : IpPrefix) → tables.is_after after q ≡ true → assigned.IsAfter after q
later_is None q e = tt
later_is (Some p) q e = lt_less (prefix_cmp p q) e

pub is_later : (after : Option IpPrefix) (q : IpPrefix) → assigned.IsAfter after q → tables.is_after after q ≡ true
is_later None q later = refl
is_later (Some p) q later = ap is_lt later

pub entry_is : (after : Option IpPrefix) (f : IpPrefix → Option ℕ) (g : IpPrefix → Option RouteFields) → ((q : IpPrefix) → is_some (f q) ≡ is_some (g q)) → (result : Option IpPrefix)
    → tables.IsLeast (λ q. tables.is_after after q && is_some (f q)) result → assigned.IsLeast (λ q. assigned.IsAfter after q × IsSome (g q)) result
entry_is after f g same result least =
    least_is (λ q. tables.is_after after q && is_some (f q)) (λ q. assigned.IsAfter after q × IsSome (g q))
    (λ q e. let parts = and_parts (tables.is_after after q) (is_some (f q)) e in (later_is after q parts.0, sym (same q) ∙ parts.1))
    (λ q holds. and_from (tables.is_after after q) (is_some (f q)) (is_later after q holds.0) (same q ∙ holds.1)) result least

pub dirty_is : (table : Table) (b : Bases) (slot : ℕ) (result : Option IpPrefix) → table.dirty ≡ b.dirty → tables.IsLeast (tables.is_dirty table slot) result → IsLeastDirty b slot result
dirty_is table b slot result same least =
    least_is (tables.is_dirty table slot) (λ q. is_dirty b slot q ≡ true)
    (λ q e. ap (λ (m : set_of.FinSet rib_cmp). set_of.contains m (q, slot)) (sym same) ∙ e)
    (λ q e. ap (λ (m : set_of.FinSet rib_cmp). set_of.contains m (q, slot)) same ∙ e) result least

pub next_dirty_is : (table : Table) (b : Bases) (slot : ℕ) (after result : Option IpPrefix) → table.dirty ≡ b.dirty → tables.IsLeast (λ q. tables.is_after after q && tables.is_dirty table slot q) result → IsNextDirty b slot after result
next_dirty_is table b slot after result same least =
    least_is (λ q. tables.is_after after q && tables.is_dirty table slot q) (λ q. assigned.IsAfter after q × (is_dirty b slot q ≡ true))
    (λ q e. let parts = and_parts (tables.is_after after q) (tables.is_dirty table slot q) e in (later_is after q parts.0, ap (λ (m : set_of.FinSet rib_cmp). set_of.contains m (q, slot)) (sym same) ∙ parts.1))
    (λ q holds. and_from (tables.is_after after q) (tables.is_dirty table slot q) (is_later after q holds.0) (ap (λ (m : set_of.FinSet rib_cmp). set_of.contains m (q, slot)) same ∙ holds.1)) result least

-- ---- the announcers of a prefix

both_true : (a b : Bool) → T (a && b) → T a × T b
both_true true b h = (tt, h)
both_true false b h = absurd h

below : (a b : ℕ) → T (is_lt (nat_cmp a b)) → a < b
below a b h = ranked a b Less (sym (lt_less (nat_cmp a b) (from_t (is_lt (nat_cmp a b)) h))) where
  from_t : (b : Bool) → T b → b ≡ true
  from_t true h = refl
  from_t false h = absurd h

below_each : (slot : ℕ) (row : List (ℕ × ℕ)) → T (below_all nat_cmp slot row) → (j : ℕ) (d : ℕ × ℕ) → j < length row → slot < (slice_index_or row j d).0
below_each slot [] h j d lt = absurd (omega arith)
below_each slot (a ∷ row) h zero d lt = below slot a.0 (both_true _ _ h).0
below_each slot (a ∷ row) h (suc j) d lt = below_each slot row (both_true _ _ h).1 j d (omega arith)

pub rising_row : (row : List (ℕ × ℕ)) → T (is_sorted nat_cmp row) → AllPairs (λ a b. a.0 < b.0) row
rising_row [] h i j d less lt = absurd (omega arith)
rising_row (a ∷ row) h i zero d less lt = absurd (omega arith)
rising_row (a ∷ row) h zero (suc j) d less lt = below_each a.0 row (both_true _ _ h).0 j d (omega arith)
rising_row (a ∷ row) h (suc i) (suc j) d less lt = rising_row row (both_true _ _ h).1 i j d (omega arith) (omega arith)

in_later : (a : ℕ × ℕ) (row : List (ℕ × ℕ)) (x : ℕ × ℕ) → Contains row x → Contains (a ∷ row) x
in_later a row x (k, lt, is) = (suc k, omega arith, is)

pub found_in : (row : List (ℕ × ℕ)) (slot n : ℕ) → find nat_cmp slot row ≡ Some n → Contains row (slot, n)
found_in [] slot n e = absurd (let f = e in cc)
found_in (a ∷ row) slot n e = at_test (slot == a.0) refl (found_in row slot n) (ap (λ (b : Bool). cond b (Some a.1) (find nat_cmp slot row)) (sym (unsigned_tied slot a.0)) ∙ e) where
  at_test : (b : Bool) → (slot == a.0) ≡ b → (find nat_cmp slot row ≡ Some n → Contains row (slot, n)) → cond b (Some a.1) (find nat_cmp slot row) ≡ Some n → Contains (a ∷ row) (slot, n)
  at_test true is later e =
      let value : a.1 ≡ n = cc in
      (0, omega arith, λ i. (sym (eqb-true slot a.0 is) i, value i))
  at_test false is later e = in_later a row (slot, n) (later e)

pub in_found : (row : List (ℕ × ℕ)) → T (is_sorted nat_cmp row) → (slot n : ℕ) → Contains row (slot, n) → find nat_cmp slot row ≡ Some n
in_found [] h slot n one = absurd (omega arith)
in_found (a ∷ row) h slot n (zero, lt, is) =
    ap (λ (b : Bool). cond b (Some a.1) (find nat_cmp slot row)) (unsigned_tied slot a.0 ∙ eq-eqb slot a.0 (sym (ap (λ (x : ℕ × ℕ). x.0) is)))
    ∙ ap (λ (x : ℕ × ℕ). Some x.1) is
in_found (a ∷ row) h slot n (suc k, lt, is) =
    let less = below_each a.0 row (both_true _ _ h).0 k (slot, n) (omega arith) in
    let slot_is : (slice_index_or row k (slot, n)).0 ≡ slot = ap (λ (x : ℕ × ℕ). x.0) is in
    let differs : (slot == a.0) ≡ false = ne_eqb slot a.0 (λ same. absurd (omega arith)) in
    ap (λ (b : Bool). cond b (Some a.1) (find nat_cmp slot row)) (unsigned_tied slot a.0 ∙ differs)
    ∙ in_found row (both_true _ _ h).1 slot n (k, omega arith, is)

pub announcer_is : (numbers : RouteNumbers) (p : IpPrefix) (row : List (ℕ × ℕ)) → row ≡ announcers_of numbers p → (slot n : ℕ) → Contains row (slot, n) ↔ (map_of.get numbers (p, slot) ≡ Some n)
announcer_is numbers p row is slot n = (
  λ one. sym (find-announcers numbers p slot) ∙ in_found (announcers_of numbers p) (rising-announcers numbers p) slot n (subst (λ (r : List (ℕ × ℕ)). Contains r (slot, n)) is one),
  λ e. subst (λ (r : List (ℕ × ℕ)). Contains r (slot, n)) (sym is) (found_in (announcers_of numbers p) slot n (find-announcers numbers p slot ∙ e)),
)

pub announcers_rise : (numbers : RouteNumbers) (p : IpPrefix) (row : List (ℕ × ℕ)) → row ≡ announcers_of numbers p → AllPairs (λ a b. a.0 < b.0) row
announcers_rise numbers p row is = subst (λ (r : List (ℕ × ℕ)). AllPairs (λ a b. a.0 < b.0) r) (sym is) (rising_row (announcers_of numbers p) (rising-announcers numbers p))
