-- What a change of one count makes of the routes that are kept.
use Rattle.std.proofs.Common.{◌≡◌, ◌≢◌, ℕ, ◌+◌, ◌-◌, ◌^◌, ◌<◌, Bool, true, false, cond, ◌||◌, ◌==◌, Option, Some, None, IsSome, IfSome, Result, Ok, Err, IfOk, OnErr, refl, sym, ap, subst, ◌∙◌, inl, inr, arith}
use Rattle.std.specs.Option.{option_map, unwrap_or}
use Rattle.std.specs.FinMap as map_of
use Rattle.std.specs.HashMap as hash
use Rattle.std.specs.HashMap.{HashMap}
use Rattle.std.proofs.lemmas.Bool.{cases_Bool, eqb-true, eqb-false, both_ways}
use Rattle.std.proofs.lemmas.Bool.Decides.{nat_tests}
use Rattle.slab.specs.Slab as slab
use Rattle.slab.specs.Slab.{Slab, Updates, ContainsKey}
use Rattle.slab.proofs.SlabLemmas.{Updates-with_value}
use Rattle.rcp_model.specs.Routes.{RouteFields}
use Rattle.attr_store.specs.declared.kept.KeptRoute.{KeptRoute}
use Rattle.attr_store.specs.SameRoutes.{same_route}
use Rattle.attr_store.specs.Kept.{KeptRoutes, MOST_USES, route_at, uses_at, IsLive, one_more, one_less, used, retained, retained_at, released, released_at}
use Rattle.attr_store.specs.Joined.{kept_routes, IsJoined}
use Rattle.attr_store.proofs.KeptLemmas.{kept_get, one_set, one_same, one_gone}
use Rattle.attr_store.proofs.JoinedLemmas.{joined_counted, joined_removed}

abbrev with_uses : KeptRoute → ℕ → KeptRoute
with_uses k uses = record k { uses = uses }

same_uses : (k : KeptRoute) (uses : ℕ) → uses ≡ k.uses → with_uses k uses ≡ k
same_uses k uses e = ap (with_uses k) e

more_left : (uses : ℕ) → 0 < uses → 0 < one_more uses
more_left uses h = grind (arith, nat_tests)

less_left : (uses : ℕ) → 0 < uses → 0 < one_less uses
less_left uses h = grind (arith, nat_tests)

module _ (old : Slab KeptRoute) (v : KeptRoutes) (view : kept_routes old ≡ v) (n : ℕ) where
  pub get_in : map_of.get v n ≡ slab.get old n
  get_in = ap (λ (m : KeptRoutes). map_of.get m n) (sym view) ∙ kept_get old n

  pub live_in : IsLive v n → ContainsKey old n
  live_in live = subst IsSome get_in live

  pub route_in : (k : KeptRoute) → Some k ≡ slab.get old n → route_at v n ≡ Some k.route
  route_in k e = ap (option_map (λ (k : KeptRoute). k.route)) (get_in ∙ sym e)

  -- ---- one use more

  module _ (new : Slab KeptRoute) (more : IfSome (slab.get old n) (λ k. Updates old new n (Some (record k { uses = one_more k.uses })))) where
    retained_by : (slot : Option KeptRoute) → slab.get old n ≡ slot → IsSome slot → IfSome slot (λ k. Updates old new n (Some (record k { uses = one_more k.uses })))
        → kept_routes new ≡ retained v n
    retained_by None e live updates = absurd cc
    retained_by (Some k) e live updates =
        one_set old new n (with_uses k (one_more k.uses)) updates
        ∙ ap (λ (m : KeptRoutes). map_of.insert m n (with_uses k (one_more k.uses))) view
        ∙ ap (retained_at v n) (sym (get_in ∙ e))

    pub retained_is : ContainsKey old n → kept_routes new ≡ retained v n
    retained_is live = retained_by (slab.get old n) refl live more

    used_by : (slot : Option KeptRoute) (route : RouteFields) → slab.get old n ≡ slot → option_map (λ (k : KeptRoute). k.route) slot ≡ Some route
        → IfSome slot (λ k. Updates old new n (Some (record k { uses = one_more k.uses }))) → kept_routes new ≡ used v n route
    used_by None route e same updates = absurd cc
    used_by (Some k) route e same updates =
        let r : k.route ≡ route = cc in
        let u : k.uses ≡ uses_at v n = sym (ap (λ (o : Option KeptRoute). unwrap_or (option_map (λ (x : KeptRoute). x.uses) o) 0) (get_in ∙ e)) in
        one_set old new n (with_uses k (one_more k.uses)) updates
        ∙ ap (λ (m : KeptRoutes). map_of.insert m n (with_uses k (one_more k.uses))) view
        ∙ (λ i. map_of.insert v n (record { route = r i; uses = one_more (u i) }))

    pub used_is : (route : RouteFields) → route_at v n ≡ Some route → kept_routes new ≡ used v n route
    used_is route here = used_by (slab.get old n) route refl (ap (option_map (λ (k : KeptRoute). k.route)) (sym get_in) ∙ here) more

  -- a route that wasn't there
  pub added_is : (new : Slab KeptRoute) (route : RouteFields) → slab.get old n ≡ None → Updates old new n (Some (record { route = route; uses = 1 })) → kept_routes new ≡ used v n route
  added_is new route vacant updates =
      let u : 0 ≡ uses_at v n = sym (ap (λ (o : Option KeptRoute). unwrap_or (option_map (λ (x : KeptRoute). x.uses) o) 0) (get_in ∙ vacant)) in
      one_set old new n (record { route = route; uses = 1 }) updates
      ∙ ap (λ (m : KeptRoutes). map_of.insert m n (record { route = route; uses = 1 })) view
      ∙ (λ i. map_of.insert v n (record { route = route; uses = one_more (u i) }))

  -- ---- one use less

  module _ (new : Slab KeptRoute) (less : IfSome (slab.get old n) (λ k. Updates old new n (Some (record k { uses = one_less k.uses })))) where
    -- the count of a last use is left
    left_by : (slot : Option KeptRoute) → slab.get old n ≡ slot → IfSome slot (λ k. true ≡ (k.uses == 1)) → IfSome slot (λ k. Updates old new n (Some (record k { uses = one_less k.uses })))
        → IsSome slot → (k : KeptRoute) × (slab.get old n ≡ Some k) × (k.uses ≡ 1) × (slab.get new n ≡ Some k) × (kept_routes new ≡ v)
    left_by None e last updates live = absurd cc
    left_by (Some k) e last updates live =
        let one : k.uses ≡ 1 = eqb-true k.uses 1 (sym last) in
        let same : with_uses k (one_less k.uses) ≡ k = same_uses k (one_less k.uses) (ap one_less one ∙ sym one) in
        let now = subst (λ (l : KeptRoute). Updates old new n (Some l)) same updates in
        (k, e, one, now.changed, one_same old new n k now e ∙ view)

    pub left_is : (last : Bool) → last ≡ true → IfSome (slab.get old n) (λ k. last ≡ (k.uses == 1)) → ContainsKey old n
        → (k : KeptRoute) × (slab.get old n ≡ Some k) × (k.uses ≡ 1) × (slab.get new n ≡ Some k) × (kept_routes new ≡ v)
    left_is last is told live = left_by (slab.get old n) refl (subst (λ (b : Bool). IfSome (slab.get old n) (λ k. b ≡ (k.uses == 1))) is told) less live

    -- the map after the last use has ended
    pub gone_is : (k : KeptRoute) → slab.get old n ≡ Some k → k.uses ≡ 1 → kept_routes new ≡ v → (after : Slab KeptRoute) → Updates new after n None → kept_routes after ≡ released v n
    gone_is k here one same after updates =
        one_gone new after n updates
        ∙ ap (λ (m : KeptRoutes). map_of.remove m n) same
        ∙ ap (λ (u : ℕ). cond (u == MOST_USES) v (cond (u == 1) (map_of.remove v n) (map_of.insert v n (with_uses k (u - 1))))) (sym one)
        ∙ ap (released_at v n) (sym (get_in ∙ here))

    lessened : (k : KeptRoute) → slab.get old n ≡ Some k → (k.uses == 1) ≡ false → Updates old new n (Some (with_uses k (one_less k.uses))) → (most : Bool) → (k.uses == MOST_USES) ≡ most → kept_routes new ≡ released_at v n (Some k)
    lessened k e more updates true most =
        let same : with_uses k (one_less k.uses) ≡ k = same_uses k (one_less k.uses) (rw (more, most) refl) in
        one_same old new n k (subst (λ (l : KeptRoute). Updates old new n (Some l)) same updates) e ∙ view ∙ rw most refl
    lessened k e more updates false most =
        let count : one_less k.uses ≡ k.uses - 1 = rw (more, most) refl in
        one_set old new n (with_uses k (one_less k.uses)) updates
        ∙ ap (λ (m : KeptRoutes). map_of.insert m n (with_uses k (one_less k.uses))) view
        ∙ ap (λ (u : ℕ). map_of.insert v n (with_uses k u)) count
        ∙ rw (most, more) refl

    released_by : (slot : Option KeptRoute) → slab.get old n ≡ slot → IfSome slot (λ k. false ≡ (k.uses == 1)) → IfSome slot (λ k. Updates old new n (Some (record k { uses = one_less k.uses })))
        → IsSome slot → kept_routes new ≡ released v n
    released_by None e last updates live = absurd cc
    released_by (Some k) e last updates live = lessened k e (sym last) updates (k.uses == MOST_USES) refl ∙ ap (released_at v n) (sym (get_in ∙ e))

    pub released_is : (last : Bool) → last ≡ false → IfSome (slab.get old n) (λ k. last ≡ (k.uses == 1)) → ContainsKey old n → kept_routes new ≡ released v n
    released_is last is told live = released_by (slab.get old n) refl (subst (λ (b : Bool). IfSome (slab.get old n) (λ k. b ≡ (k.uses == 1))) is told) less live

-- ---- the index stays

module _ {S : Type 0} (old : Slab KeptRoute) (numbers : HashMap RouteFields ℕ S) (joined : IsJoined old numbers) (n : ℕ) (new : Slab KeptRoute) where
  counted : (change : ℕ → ℕ) → ((uses : ℕ) → 0 < uses → 0 < change uses) → (slot : Option KeptRoute) → slab.get old n ≡ slot → IsSome slot
      → IfSome slot (λ k. Updates old new n (Some (record k { uses = change k.uses }))) → IsJoined new numbers
  counted change stays None e live updates = absurd cc
  counted change stays (Some k) e live updates = joined_counted old numbers joined new n k (with_uses k (change k.uses)) e updates refl (stays k.uses (joined.indexed n k e).in_use)

  pub joined_more : ContainsKey old n → IfSome (slab.get old n) (λ k. Updates old new n (Some (record k { uses = one_more k.uses }))) → IsJoined new numbers
  joined_more live updates = counted one_more more_left (slab.get old n) refl live updates

  pub joined_less : ContainsKey old n → IfSome (slab.get old n) (λ k. Updates old new n (Some (record k { uses = one_less k.uses }))) → IsJoined new numbers
  joined_less live updates = counted one_less less_left (slab.get old n) refl live updates

  in_use_by : (slot : Option KeptRoute) → slab.get old n ≡ slot → IfSome slot (λ k. 0 < k.uses)
  in_use_by None e = tt
  in_use_by (Some k) e = (joined.indexed n k e).in_use

  pub in_use_in : IfSome (slab.get old n) (λ k. 0 < k.uses)
  in_use_in = in_use_by (slab.get old n) refl

-- one use more, as it is written
written_by : (old : Slab KeptRoute) (n : ℕ) (k : KeptRoute) → ContainsKey old n → (slot : Option KeptRoute) → Some k ≡ slot → (uses : ℕ) → uses ≡ one_more k.uses
    → IfSome slot (λ l. Updates old (slab.with_value old n (record k { uses = uses })) n (Some (record l { uses = one_more l.uses })))
written_by old n k live None e uses is = tt
written_by old n k live (Some l) e uses is =
    let same : k ≡ l = cc in
    let value : with_uses k uses ≡ with_uses l (one_more l.uses) = ap (with_uses k) is ∙ ap (λ (x : KeptRoute). with_uses x (one_more x.uses)) same in
    subst (λ (x : KeptRoute). Updates old (slab.with_value old n (with_uses k uses)) n (Some x)) value (Updates-with_value old n (with_uses k uses) live)

pub written : (old : Slab KeptRoute) (n : ℕ) (k : KeptRoute) → Some k ≡ slab.get old n → (uses : ℕ) → uses ≡ one_more k.uses
    → IfSome (slab.get old n) (λ l. Updates old (slab.with_value old n (record k { uses = uses })) n (Some (record l { uses = one_more l.uses })))
written old n k here uses is = written_by old n k (subst IsSome here refl) (slab.get old n) here uses is

-- ---- of a result

pub both_ok : {A E : Type 0} (r : Result A E) (P Q R : A → Type 0) → ((a : A) → P a → Q a → R a) → IfOk r P → IfOk r Q → IfOk r R
both_ok (Ok a) P Q R f p q = f a p q
both_ok (Err e) P Q R f p q = tt

pub on_err : {A E : Type 0} (r : Result A E) (P Q : Type 0) → (P → Q) → OnErr r P → OnErr r Q
on_err (Ok a) P Q f p = tt
on_err (Err e) P Q f p = f p

pub absent_own : (old : Slab KeptRoute) (v : KeptRoutes) → kept_routes old ≡ v → (n : ℕ) (route : RouteFields) → slab.get old n ≡ None → IfSome (route_at v n) (λ r. r ≡ route)
absent_own old v view n route vacant =
    let none : route_at v n ≡ None = ap (option_map (λ (k : KeptRoute). k.route)) (get_in old v view n ∙ vacant) in
    subst (λ (o : Option RouteFields). IfSome o (λ r. r ≡ route)) (sym none) tt
