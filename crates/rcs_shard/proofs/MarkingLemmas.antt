-- The prefixes of a slot that are marked one after another, and those of several slots.
use Rattle.std.proofs.Common.{◌≡◌, ℕ, zero, suc, ◌+◌, ◌-◌, ◌<◌, ◌≤◌, Bool, true, false, cond, not, ◌&&◌, ◌||◌, eqb, ltb, Option, Some, None, is_some, IsSome, refl, sym, ap, subst, ◌∙◌, ◌⊎◌, inl, inr, arith}
use Rattle.std.specs.FinMap as map_of
use Rattle.std.specs.FinSet as set_of
use Rattle.std.specs.Ordering.{is_lt, is_eq, eq_by_cmp, ordering_reverse}
use Rattle.std.specs.declared.cmp.Ordering.{Ordering}
use Rattle.std.specs.declared.cmp.Ordering.TheVariants.{Less, Equal, Greater}
use Rattle.std.specs.Option.{option_eq}
use Rattle.std.proofs.lemmas.Bool.{false≢true, both_ways, and_parts, and_from, or_cases, or_left, or_right, eqb-true, eq-eqb, ltb-true, lt-ltb, cases_eq}
use Rattle.rcp_base.specs.IpPrefix.{IpPrefix, prefix_cmp}
use Rattle.rcp_model.specs.Routes.{RouteFields}
use Rattle.rcp_model.specs.Assigned.{IsAfter}
use Rattle.rcp_model.specs.ServerRibs.{Rib, prefixes_of}
use Rattle.rcp_model.proofs.RibLemmas.{prefix_total, prefix_exact}
use Rattle.rib_laws.proofs.RibLookups.{same_test, has_of_prefixes, prefixes_of_has}
use Rattle.pending_marks.specs.Marks.{MarksOf, is_marked, is_opened}
use Rattle.pending_marks.proofs.FirstLemmas.{tied_same, tied_self}
use Rattle.adj_ribs.specs.Bases.{Bases, announced_at, IsNextOf}
use Rattle.rcs_shard.specs.Settling.{AreSeated}

-- ---- the prefixes of slots that pass a test

module _ (rib : Rib RouteFields) where
  within : (t u : ℕ → Bool) (q : IpPrefix) → ((e : ℕ) → t e ≡ true → IsSome (map_of.get rib (q, e)) → u e ≡ true)
      → set_of.contains (prefixes_of t rib) q ≡ true → set_of.contains (prefixes_of u rib) q ≡ true
  within t u q to inside =
      let has = has_of_prefixes t rib q inside in
      prefixes_of_has u rib q (record { slot = has.slot; passes = to has.slot has.passes has.there; there = has.there })

  same_prefixes : (t u : ℕ → Bool) → ((q : IpPrefix) (e : ℕ) → t e ≡ true → IsSome (map_of.get rib (q, e)) → u e ≡ true)
      → ((q : IpPrefix) (e : ℕ) → u e ≡ true → IsSome (map_of.get rib (q, e)) → t e ≡ true) → prefixes_of t rib ≡ prefixes_of u rib
  same_prefixes t u to from = set_of.same_set prefix_total prefix_exact (prefixes_of t rib) (prefixes_of u rib) (λ q. same_test _ _ (within t u q (to q)) (within u t q (from q)))

  -- those of one slot
  pub of_slot : (slot : ℕ) (q : IpPrefix) → set_of.contains (prefixes_of (λ e. eqb e slot) rib) q ≡ is_some (map_of.get rib (q, slot))
  of_slot slot q = same_test _ _
      (λ inside. let has = has_of_prefixes (λ e. eqb e slot) rib q inside in subst (λ e. is_some (map_of.get rib (q, e)) ≡ true) (eqb-true has.slot slot has.passes) has.there)
      (λ there. prefixes_of_has (λ e. eqb e slot) rib q (record { slot = slot; passes = eq-eqb slot slot refl; there = there }))

-- ---- one prefix after another

abbrev pub passed : Option IpPrefix → IpPrefix → Bool
passed None q = false
passed (Some p) q = not (is_lt (prefix_cmp p q))

abbrev pub announces : Bases → ℕ → IpPrefix → Bool
announces ribs slot q = is_some (announced_at ribs slot q)

-- the prefixes of a slot up to one are marked
pub record Marking (ribs : Bases) (slot : ℕ) (before : MarksOf) (after : Option IpPrefix) (now : MarksOf) : Type 0 where
  pub rest : now ≡ record before { marked = now.marked }
  pub each : (q : IpPrefix) → is_marked now q ≡ (is_marked before q || (announces ribs slot q && passed after q))

-- how many are left
pub left_of : Bases → ℕ → Option IpPrefix → ℕ
left_of ribs slot after = set_of.len (set_of.retain (prefixes_of (λ e. eqb e slot) ribs.announced) (λ q. not (passed after q)))

not_passed : (after : Option IpPrefix) (q : IpPrefix) → passed after q ≡ false → IsAfter after q
not_passed None q is = tt
not_passed (Some o) q is = at (prefix_cmp o q) refl is where
  at : (c : Ordering) → prefix_cmp o q ≡ c → not (is_lt c) ≡ false → prefix_cmp o q ≡ Less
  at Less e is = e
  at Equal e is = absurd (false≢true (sym is))
  at Greater e is = absurd (false≢true (sym is))

after_not_passed : (after : Option IpPrefix) (q : IpPrefix) → IsAfter after q → passed after q ≡ false
after_not_passed None q is = refl
after_not_passed (Some o) q is = ap (λ c. not (is_lt c)) is

passed_more : (after : Option IpPrefix) (p q : IpPrefix) → IsAfter after p → passed after q ≡ true → passed (Some p) q ≡ true
passed_more None p q is was = absurd (false≢true was)
passed_more (Some o) p q is was = at (prefix_cmp p q) refl where
  at : (c : Ordering) → prefix_cmp p q ≡ c → passed (Some p) q ≡ true
  at Less e = absurd (false≢true (sym (ap (λ c. not (is_lt c)) (prefix_total.trans o p q is e)) ∙ was))
  at Equal e = ap (λ c. not (is_lt c)) e
  at Greater e = ap (λ c. not (is_lt c)) e

none_before : (or : Bool) → or ≡ (or || false)
none_before true = refl
none_before false = refl

pub marking_begins : (ribs : Bases) (slot : ℕ) (before : MarksOf) → Marking ribs slot before None before
marking_begins ribs slot before = record { rest = refl; each = λ q. at (is_marked before q) (announces ribs slot q) } where
  at : (b a : Bool) → b ≡ (b || (a && false))
  at true a = refl
  at false true = refl
  at false false = refl

module _ (ribs : Bases) (slot : ℕ) (after : Option IpPrefix) (p : IpPrefix) (next : IsNextOf ribs slot after (Some p)) where
  tied_passed : (q : IpPrefix) → eq_by_cmp prefix_cmp q p ≡ true → passed (Some p) q ≡ true
  tied_passed q tied = subst (λ r. passed (Some p) r ≡ true) (sym (tied_same q p tied)) (at (prefix_cmp p p) (tied_self p)) where
    at : (c : Ordering) → is_eq c ≡ true → not (is_lt c) ≡ true
    at Less e = absurd (false≢true e)
    at Equal e = refl
    at Greater e = absurd (false≢true e)

  -- one that is passed now and not before is the prefix
  one_more : (q : IpPrefix) → announces ribs slot q ≡ true → passed after q ≡ false → passed (Some p) q ≡ true → eq_by_cmp prefix_cmp q p ≡ true
  one_more q there before now = at (prefix_cmp q p) refl where
    at : (c : Ordering) → prefix_cmp q p ≡ c → is_eq (prefix_cmp q p) ≡ true
    at Less e = absurd (next.1 q (not_passed after q before, there) e)
    at Equal e = ap is_eq e
    at Greater e = absurd (false≢true (sym (ap (λ c. not (is_lt c)) (prefix_total.antisymm p q ∙ ap ordering_reverse e)) ∙ now))

  module _ (before now : MarksOf) (marking : Marking ribs slot before after now) where
    pub can_mark : ((e : ℕ) (q : IpPrefix) → IsSome (announced_at ribs e q) → is_opened before q ≡ true) → is_opened now p ≡ true
    can_mark opened = ap (λ (m : MarksOf). is_opened m p) marking.rest ∙ opened slot p next.0.1

    each_more : (q : IpPrefix) → (eq_by_cmp prefix_cmp q p || is_marked now q) ≡ (is_marked before q || (announces ribs slot q && passed (Some p) q))
    each_more q = same_test _ _
        (λ inside. elim (or_cases (eq_by_cmp prefix_cmp q p) (is_marked now q) inside) [
          | inl tied ↦ or_right (is_marked before q) _ (and_from (announces ribs slot q) (passed (Some p) q) (subst (λ r. announces ribs slot r ≡ true) (sym (tied_same q p tied)) next.0.1) (tied_passed q tied))
          | inr was ↦ elim (or_cases (is_marked before q) (announces ribs slot q && passed after q) (sym (marking.each q) ∙ was)) [
            | inl first ↦ or_left (is_marked before q) _ first
            | inr both ↦ let parts = and_parts (announces ribs slot q) (passed after q) both in
                or_right (is_marked before q) _ (and_from (announces ribs slot q) (passed (Some p) q) parts.0 (passed_more after p q next.0.0 parts.1))
          ]
        ])
        (λ inside. elim (or_cases (is_marked before q) (announces ribs slot q && passed (Some p) q) inside) [
          | inl first ↦ or_right (eq_by_cmp prefix_cmp q p) _ (marking.each q ∙ or_left (is_marked before q) _ first)
          | inr both ↦ let parts = and_parts (announces ribs slot q) (passed (Some p) q) both in by_test q parts.0 parts.1 (passed after q) refl
        ]) where
          by_test : (q : IpPrefix) → announces ribs slot q ≡ true → passed (Some p) q ≡ true → (t : Bool) → passed after q ≡ t → (eq_by_cmp prefix_cmp q p || is_marked now q) ≡ true
          by_test q there now_is true is = or_right (eq_by_cmp prefix_cmp q p) _ (marking.each q ∙ or_right (is_marked before q) _ (and_from (announces ribs slot q) (passed after q) there is))
          by_test q there now_is false is = or_left (eq_by_cmp prefix_cmp q p) _ (one_more q there is now_is)

    pub marking_more : (new : MarksOf) → new ≡ record now { marked = set_of.insert now.marked p } → Marking ribs slot before (Some p) new
    marking_more new is = subst (Marking ribs slot before (Some p)) (sym is) (record {
      rest = ap (λ (m : MarksOf). record m { marked = set_of.insert now.marked p }) marking.rest;
      each = λ q. set_of.contains-insert prefix_total now.marked p q ∙ each_more q;
    })

  -- ---- fewer are left

  prefixes : set_of.FinSet prefix_cmp
  prefixes = prefixes_of (λ e. eqb e slot) ribs.announced

  rest_at : (o : Option IpPrefix) (q : IpPrefix) → set_of.contains (set_of.retain (prefixes_of (λ e. eqb e slot) ribs.announced) (λ r. not (passed o r))) q ≡ (announces ribs slot q && not (passed o q))
  rest_at o q = set_of.contains-retain (prefixes_of (λ e. eqb e slot) ribs.announced) (λ r. not (passed o r)) q (λ x tied. ap (λ r. not (passed o r)) (sym (prefix_exact q x tied)))
      ∙ ap (λ t. t && not (passed o q)) (of_slot ribs.announced slot q)

  without : set_of.retain (prefixes_of (λ e. eqb e slot) ribs.announced) (λ r. not (passed (Some p) r))
      ≡ set_of.remove (set_of.retain (prefixes_of (λ e. eqb e slot) ribs.announced) (λ r. not (passed after r))) p
  without = set_of.same_set prefix_total prefix_exact _ _ (λ q. rest_at (Some p) q ∙ at q (eq_by_cmp prefix_cmp q p) refl (announces ribs slot q) refl (passed after q) refl (passed (Some p) q) refl
      ∙ sym (set_of.contains-remove prefix_total (set_of.retain (prefixes_of (λ e. eqb e slot) ribs.announced) (λ r. not (passed after r))) p q
      ∙ ap (λ t. not (eq_by_cmp prefix_cmp q p) && t) (rest_at after q))) where
        at : (q : IpPrefix) (e : Bool) → eq_by_cmp prefix_cmp q p ≡ e → (a : Bool) → announces ribs slot q ≡ a → (w : Bool) → passed after q ≡ w → (v : Bool) → passed (Some p) q ≡ v
            → (announces ribs slot q && not (passed (Some p) q)) ≡ (not (eq_by_cmp prefix_cmp q p) && (announces ribs slot q && not (passed after q)))
        at q true e_is a a_is w w_is v v_is =
            (λ i. a_is i && not (tied_passed q e_is i)) ∙ off a ∙ sym (ap (λ t. not t && (announces ribs slot q && not (passed after q))) e_is) where
              off : (a : Bool) → (a && false) ≡ false
              off true = refl
              off false = refl
        at q false e_is false a_is w w_is v v_is = (λ i. a_is i && not (passed (Some p) q)) ∙ sym ((λ i. not (e_is i) && (a_is i && not (passed after q))))
        at q false e_is true a_is true w_is v v_is =
            (λ i. a_is i && not (passed_more after p q next.0.0 w_is i)) ∙ sym (λ i. not (e_is i) && (a_is i && not (w_is i)))
        at q false e_is true a_is false w_is true v_is = absurd (false≢true (sym e_is ∙ one_more q a_is w_is v_is))
        at q false e_is true a_is false w_is false v_is = (λ i. a_is i && not (v_is i)) ∙ sym (λ i. not (e_is i) && (a_is i && not (w_is i)))

  one_in : (s : set_of.FinSet prefix_cmp) → set_of.contains s p ≡ true → 1 ≤ set_of.len s
  one_in s there = at (set_of.len s) refl where
    at : (n : ℕ) → set_of.len s ≡ n → 1 ≤ n
    at zero none = absurd (false≢true (sym (set_of.contains-empty prefix_cmp p) ∙ sym (ap (λ (r : set_of.FinSet prefix_cmp). set_of.contains r p) (set_of.empty_of_len s none)) ∙ there))
    at (suc n) some = omega arith

  pub fewer_left : left_of ribs slot (Some p) < left_of ribs slot after
  unfolding left_of
  fewer_left =
      let left = set_of.retain (prefixes_of (λ e. eqb e slot) ribs.announced) (λ r. not (passed after r)) in
      let there : set_of.contains left p ≡ true = rest_at after p ∙ (λ i. next.0.1 i && not (after_not_passed after p next.0.0 i)) in
      let one = one_in left there in
      let len : set_of.len (set_of.retain (prefixes_of (λ e. eqb e slot) ribs.announced) (λ r. not (passed (Some p) r))) ≡ set_of.len left - 1 =
      ap (λ (s : set_of.FinSet prefix_cmp). set_of.len s) without ∙ set_of.len-remove prefix_total left p ∙ ap (λ t. cond t (set_of.len left - 1) (set_of.len left)) there in
      omega arith

-- all are marked
pub marking_ends : (ribs : Bases) (slot : ℕ) (after : Option IpPrefix) (before now : MarksOf) → IsNextOf ribs slot after None → Marking ribs slot before after now
    → now ≡ record before { marked = set_of.union before.marked (prefixes_of (λ e. eqb e slot) ribs.announced) }
marking_ends ribs slot after before now none marking = marking.rest ∙ (λ i. record before { marked = same i }) where
  at : (q : IpPrefix) (a w : Bool) → announces ribs slot q ≡ a → passed after q ≡ w → (is_marked before q || (announces ribs slot q && passed after q)) ≡ (is_marked before q || announces ribs slot q)
  at q false w a_is w_is = (λ i. is_marked before q || (a_is i && passed after q)) ∙ sym (ap (λ t. is_marked before q || t) a_is)
  at q true true a_is w_is = (λ i. is_marked before q || (a_is i && w_is i)) ∙ sym (ap (λ t. is_marked before q || t) a_is)
  at q true false a_is w_is = absurd (none q (not_passed after q w_is, a_is))

  same : now.marked ≡ set_of.union before.marked (prefixes_of (λ e. eqb e slot) ribs.announced)
  same = set_of.same_set prefix_total prefix_exact _ _ (λ q.
      marking.each q ∙ at q (announces ribs slot q) (passed after q) refl refl
      ∙ sym (set_of.contains-union prefix_total before.marked (prefixes_of (λ e. eqb e slot) ribs.announced) q ∙ ap (λ t. is_marked before q || t) (of_slot ribs.announced slot q)))

-- ---- one slot after another

abbrev pub marked_below : Bases → (ℕ → Bool) → ℕ → MarksOf → MarksOf
marked_below ribs test k before = record before { marked = set_of.union before.marked (prefixes_of (λ e. ltb e k && test e) ribs.announced) }

module _ (ribs : Bases) (test : ℕ → Bool) (before : MarksOf) where
  pub below_none : before ≡ marked_below ribs test 0 before
  below_none = λ i. record before { marked = same i } where
    same : before.marked ≡ set_of.union before.marked (prefixes_of (λ e. ltb e 0 && test e) ribs.announced)
    same = set_of.same_set prefix_total prefix_exact _ _ (λ q. sym (set_of.contains-union prefix_total before.marked (prefixes_of (λ e. ltb e 0 && test e) ribs.announced) q
        ∙ at q (set_of.contains (prefixes_of (λ e. ltb e 0 && test e) ribs.announced) q) refl)) where
          at : (q : IpPrefix) (t : Bool) → set_of.contains (prefixes_of (λ e. ltb e 0 && test e) ribs.announced) q ≡ t
              → (set_of.contains before.marked q || set_of.contains (prefixes_of (λ e. ltb e 0 && test e) ribs.announced) q) ≡ set_of.contains before.marked q
          at q true is =
              let has = has_of_prefixes (λ e. ltb e 0 && test e) ribs.announced q is in
              let low = ltb-true has.slot 0 (and_parts (ltb has.slot 0) (test has.slot) has.passes).0 in
              absurd (omega arith)
          at q false is = ap (λ t. set_of.contains before.marked q || t) is ∙ sym (none_before (set_of.contains before.marked q))

  module _ (k : ℕ) where
    step_cases : (e : ℕ) → ltb e (k + 1) ≡ true → (ltb e k ≡ true) ⊎ (e ≡ k)
    step_cases e low = elim (cases_eq e k) [
      | inl same ↦ inr same
      | inr other ↦ let less = ltb-true e (k + 1) low in inl (lt-ltb e k (omega arith))
    ]

    step_up : (e : ℕ) → ltb e k ≡ true → ltb e (k + 1) ≡ true
    step_up e low = let less = ltb-true e k low in lt-ltb e (k + 1) (omega arith)

    pub below_skip : test k ≡ false → marked_below ribs test k before ≡ marked_below ribs test (k + 1) before
    below_skip fails = λ i. record before { marked = set_of.union before.marked (same i) } where
      same : prefixes_of (λ e. ltb e k && test e) ribs.announced ≡ prefixes_of (λ e. ltb e (k + 1) && test e) ribs.announced
      same = same_prefixes ribs.announced (λ e. ltb e k && test e) (λ e. ltb e (k + 1) && test e)
          (λ q e passes there. let both = and_parts (ltb e k) (test e) passes in and_from (ltb e (k + 1)) (test e) (step_up e both.0) both.1)
          (λ q e passes there. let both = and_parts (ltb e (k + 1)) (test e) passes in elim (step_cases e both.0) [
            | inl low ↦ and_from (ltb e k) (test e) low both.1
            | inr is_k ↦ absurd (false≢true (sym fails ∙ ap test (sym is_k) ∙ both.1))
          ])

    pub below_more : test k ≡ true → (now new : MarksOf) → now ≡ marked_below ribs test k before
        → new ≡ record now { marked = set_of.union now.marked (prefixes_of (λ e. eqb e k) ribs.announced) } → new ≡ marked_below ribs test (k + 1) before
    below_more passes now new now_is new_is =
        new_is ∙ ap (λ (m : MarksOf). record m { marked = set_of.union m.marked (prefixes_of (λ e. eqb e k) ribs.announced) }) now_is ∙ (λ i. record before { marked = same i }) where
          one : (q : IpPrefix) (m : Bool) → ((m || set_of.contains (prefixes_of (λ e. ltb e k && test e) ribs.announced) q) || set_of.contains (prefixes_of (λ e. eqb e k) ribs.announced) q)
              ≡ (m || set_of.contains (prefixes_of (λ e. ltb e (k + 1) && test e) ribs.announced) q)
          one q true = refl
          one q false = same_test _ _
              (λ inside. elim (or_cases _ (set_of.contains (prefixes_of (λ e. eqb e k) ribs.announced) q) inside) [
                | inl low ↦ within ribs.announced (λ e. ltb e k && test e) (λ e. ltb e (k + 1) && test e) q
                    (λ e both there. let parts = and_parts (ltb e k) (test e) both in and_from (ltb e (k + 1)) (test e) (step_up e parts.0) parts.1) low
                | inr here ↦ within ribs.announced (λ e. eqb e k) (λ e. ltb e (k + 1) && test e) q
                    (λ e same there. let is = eqb-true e k same in and_from (ltb e (k + 1)) (test e) (lt-ltb e (k + 1) (omega arith)) (ap test is ∙ passes)) here
              ])
              (λ inside. let has = has_of_prefixes (λ e. ltb e (k + 1) && test e) ribs.announced q inside in
              let both = and_parts (ltb has.slot (k + 1)) (test has.slot) has.passes in elim (step_cases has.slot both.0) [
                | inl low ↦ or_left _ (set_of.contains (prefixes_of (λ e. eqb e k) ribs.announced) q)
                    (prefixes_of_has (λ e. ltb e k && test e) ribs.announced q (record { slot = has.slot; passes = and_from (ltb has.slot k) (test has.slot) low both.1; there = has.there }))
                | inr is_k ↦ or_right (set_of.contains (prefixes_of (λ e. ltb e k && test e) ribs.announced) q) _
                    (prefixes_of_has (λ e. eqb e k) ribs.announced q (record { slot = has.slot; passes = eq-eqb has.slot k is_k; there = has.there }))
              ])

          same : set_of.union (set_of.union before.marked (prefixes_of (λ e. ltb e k && test e) ribs.announced)) (prefixes_of (λ e. eqb e k) ribs.announced)
              ≡ set_of.union before.marked (prefixes_of (λ e. ltb e (k + 1) && test e) ribs.announced)
          same = set_of.same_set prefix_total prefix_exact _ _ (λ q.
              set_of.contains-union prefix_total (set_of.union before.marked (prefixes_of (λ e. ltb e k && test e) ribs.announced)) (prefixes_of (λ e. eqb e k) ribs.announced) q
              ∙ ap (λ t. t || set_of.contains (prefixes_of (λ e. eqb e k) ribs.announced) q) (set_of.contains-union prefix_total before.marked (prefixes_of (λ e. ltb e k && test e) ribs.announced) q)
              ∙ one q (set_of.contains before.marked q)
              ∙ sym (set_of.contains-union prefix_total before.marked (prefixes_of (λ e. ltb e (k + 1) && test e) ribs.announced) q))

  pub below_all : (n : ℕ) → AreSeated ribs n → marked_below ribs test n before ≡ record before { marked = set_of.union before.marked (prefixes_of test ribs.announced) }
  below_all n seated = λ i. record before { marked = set_of.union before.marked (same i) } where
    same : prefixes_of (λ e. ltb e n && test e) ribs.announced ≡ prefixes_of test ribs.announced
    same = same_prefixes ribs.announced (λ e. ltb e n && test e) test
        (λ q e passes there. (and_parts (ltb e n) (test e) passes).1)
        (λ q e passes there. and_from (ltb e n) (test e) (lt-ltb e n (seated e q there)) passes)

-- ---- costs that differ

pub costs_differ : (a b : Option ℕ) → not (option_eq eqb a b) ≡ true → a ≡ b → ⊥
costs_differ a b differ same = both_ways (not (option_eq eqb a b)) (ap not (ap (λ o. option_eq eqb a o) (sym same) ∙ itself a)) differ where
  itself : (o : Option ℕ) → option_eq eqb o o ≡ true
  itself None = refl
  itself (Some n) = eq-eqb n n refl
