-- The least of the prefixes that shards answer, each the least of its own.
use Rattle.std.proofs.Common.{◌≡◌, ℕ, suc, ◌<◌, ◌≤◌, Bool, true, false, cond, ◌&&◌, ◌||◌, ◌⊎◌, ◌+◌, eqb, ltb, List, length, get_or, Option, Some, None, refl, add-one, sym, ap, ◌∙◌, inl, inr, subst, arith}
use Rattle.std.specs.Prelude.{slice_get}
use Rattle.std.specs.Ordering.{is_lt}
use Rattle.std.specs.declared.cmp.Ordering.{Ordering}
use Rattle.std.specs.declared.cmp.Ordering.TheVariants.{Less, Equal, Greater}
use Rattle.std.proofs.lemmas.Bool.{false≢true}
use Rattle.std.proofs.lemmas.Bool.Decides.{nat_tests}
use Rattle.std.proofs.lemmas.Option.{slice_get_within, slice_get-get_or}
use Rattle.rcp_base.specs.IpPrefix.{IpPrefix, prefix_cmp}
use Rattle.rcp_base.specs.Maps.{is_before}
use Rattle.rcp_base.proofs.PrefixLemmas.{before-cmp}
use Rattle.rcp_model.specs.Assigned.{IsLeast}
use Rattle.rcs_shards.specs.Least.{lesser_of, HasSome}

-- ---- the order

pub less-before : (p q : IpPrefix) → prefix_cmp p q ≡ Less → is_before p q ≡ true
less-before p q less = before-cmp p q ∙ ap is_lt less

lt-less : (o : Ordering) → is_lt o ≡ true → o ≡ Less
lt-less Less h = refl
lt-less Equal h = absurd (false≢true h)
lt-less Greater h = absurd (false≢true h)

pub before-less : (p q : IpPrefix) → is_before p q ≡ true → prefix_cmp p q ≡ Less
before-less p q before = lt-less (prefix_cmp p q) (sym (before-cmp p q) ∙ before)

step : (a b c k l m : ℕ) → (ltb a b || eqb a b && ltb k l) ≡ true → (ltb b c || eqb b c && ltb l m) ≡ true → (ltb a c || eqb a c && ltb k m) ≡ true
step a b c k l m h g = grind (arith, nat_tests)

over : (a b c k l m : ℕ) → (ltb a b || eqb a b && ltb k l) ≡ true → (ltb c b || eqb c b && ltb m l) ≡ false → (ltb a c || eqb a c && ltb k m) ≡ true
over a b c k l m h g = grind (arith, nat_tests)

pub before-step : (p q r : IpPrefix) → is_before p q ≡ true → is_before q r ≡ true → is_before p r ≡ true
before-step p q r h g = step p.addr q.addr r.addr p.len q.len r.len h g

-- before the one, and so before another that isn't before it
pub before-over : (p q r : IpPrefix) → is_before p q ≡ true → is_before r q ≡ false → is_before p r ≡ true
before-over p q r h g = over p.addr q.addr r.addr p.len q.len r.len h g

-- ---- the lesser of two

pub least-same : (A B : IpPrefix → Type 0) (o : Option IpPrefix) → ((p : IpPrefix) → A p → B p) → ((p : IpPrefix) → B p → A p) → IsLeast A o → IsLeast B o
least-same A B None to from least = λ q is. least q (from q is)
least-same A B (Some p) to from least = (to p least.0, λ q is before. least.1 q (from q is) before)

pub least-either : (A B : IpPrefix → Type 0) (a b : Option IpPrefix) → IsLeast A a → IsLeast B b → IsLeast (λ p. A p ⊎ B p) (lesser_of a b)
least-either A B None None none_a none_b = λ q either. elim either [ inl is ↦ none_a q is | inr is ↦ none_b q is ]
least-either A B None (Some p) none_a least_b = (inr least_b.0, λ q either before. elim either [ inl is ↦ none_a q is | inr is ↦ least_b.1 q is before ])
least-either A B (Some p) None least_a none_b = (inl least_a.0, λ q either before. elim either [ inl is ↦ least_a.1 q is before | inr is ↦ none_b q is ])
least-either A B (Some p) (Some q) least_a least_b = at_test (is_before q p) refl where
  at_test : (t : Bool) → is_before q p ≡ t → IsLeast (λ r. A r ⊎ B r) (cond t (Some q) (Some p))
  at_test true lower = (
    inr least_b.0,
    λ r either before. elim either [
      | inl is ↦ least_a.1 r is (before-less r p (before-step r q p (less-before r q before) lower))
      | inr is ↦ least_b.1 r is before
    ],
  )
  at_test false higher = (
    inl least_a.0,
    λ r either before. elim either [
      | inl is ↦ least_a.1 r is before
      | inr is ↦ least_b.1 r is (before-less r q (before-over r p q (less-before r p before) higher))
    ],
  )

-- ---- the least of all

module _ {S : Type 0} (Has : S → IpPrefix → Type 0) where
  -- one of the first so many has the prefix
  abbrev pub HasBelow : List S → ℕ → IpPrefix → Type 0
  HasBelow shards count p = (n : ℕ) × (s : S) × (n < count) × (slice_get shards n ≡ Some s) × Has s p

  pub least-none : (shards : List S) → IsLeast (HasBelow shards 0) None
  least-none shards = λ q has. let low : has.0 < 0 = has.2 in absurd (omega (arith, low))

  one_is : {s t : S} {o : Option S} → o ≡ Some s → o ≡ Some t → Some s ≡ Some t
  one_is a b = sym a ∙ b

  same_one : (s t : S) → Some s ≡ Some t → s ≡ t
  same_one s t e = cc

  pub least-more : (shards : List S) (count : ℕ) (s : S) → slice_get shards count ≡ Some s → (found next : Option IpPrefix)
      → IsLeast (HasBelow shards count) found → IsLeast (Has s) next → IsLeast (HasBelow shards (suc count)) (lesser_of found next)
  least-more shards count s here found next least least_s =
      least-same (λ p. HasBelow shards count p ⊎ Has s p) (HasBelow shards (suc count)) (lesser_of found next) to from
      (least-either (HasBelow shards count) (Has s) found next least least_s) where
        to : (p : IpPrefix) → HasBelow shards count p ⊎ Has s p → HasBelow shards (suc count) p
        to p (inl has) = let low : has.0 < count = has.2 in (has.0, has.1, omega (arith, low), has.3, has.4)
        to p (inr has) = (count, s, omega arith, here, has)

        from : (p : IpPrefix) → HasBelow shards (suc count) p → HasBelow shards count p ⊎ Has s p
        from p has = by_place (less_or_here has.0 count has.2) where
          less_or_here : (n m : ℕ) → n < suc m → (n < m) ⊎ (n ≡ m)
          less_or_here n m low = elim (ltb n m) as (λ b. ltb n m ≡ b → (n < m) ⊎ (n ≡ m)) [ true ↦ λ e. inl (grind (arith, nat_tests)) | false ↦ λ e. inr (grind (arith, nat_tests)) ] refl

          by_place : (has.0 < count) ⊎ (has.0 ≡ count) → HasBelow shards count p ⊎ Has s p
          by_place (inl low) = inl (has.0, has.1, low, has.3, has.4)
          by_place (inr at) = inr (subst (λ t. Has t p) (same_one has.1 s (one_is {o = slice_get shards has.0} has.3 (ap (slice_get shards) at ∙ here))) has.4)

  pub least-all : (shards : List S) (count : ℕ) (found : Option IpPrefix) → length shards ≤ count → IsLeast (HasBelow shards count) found → IsLeast (HasSome Has shards) found
  least-all shards count found all least =
      least-same (HasBelow shards count) (HasSome Has shards) found (λ p has. (has.0, has.1, has.3, has.4)) (λ p has.
      let low : has.0 < length shards = slice_get_within shards has.0 has.1 has.2 in
      (has.0, has.1, omega (arith, low, all), has.2, has.3)) least

  -- a turn of the loop
  pub least-turn : (shards : List S) (count : ℕ) (s : S) → count < length shards → s ≡ get_or shards count s → (found next more : Option IpPrefix)
      → IsLeast (HasBelow shards count) found → IsLeast (Has s) next → more ≡ lesser_of found next → IsLeast (HasBelow shards (count + 1)) more
  least-turn shards count s low read found next more least least_s is =
      subst (λ k. IsLeast (HasBelow shards k) more) (sym (add-one count))
      (subst (IsLeast (HasBelow shards (suc count))) (sym is)
      (least-more shards count s (slice_get-get_or shards count s low ∙ ap (λ t. Some t) (sym read)) found next least least_s))
