-- The classes of slots, and the slots that are settled class by class.
use Rattle.std.proofs.Common.{◌≡◌, ℕ, ◌+◌, ◌<◌, ◌≤◌, Bool, true, false, ◌&&◌, ◌||◌, eqb, ltb, List, length, Option, Some, None, is_some, refl, sym, ap, subst, ◌∙◌, inl, inr, arith, get_or-set_same, get_or-set_other}
use Rattle.std.proofs.Math.ListN.{set}
use Rattle.std.proofs.lemmas.Bool.{false≢true, and_parts, and_from, or_cases, or_left, or_right, eqb-true, eq-eqb, ltb-true, lt-ltb, le-ltb, cases_eq, cases_lt}
use Rattle.rcp_base.specs.declared.names.Member.{Member}
use Rattle.rcp_base.specs.declared.names.Edge.{Edge}
use Rattle.rcp_model.specs.RouteServer.{slot_cost}
use Rattle.cost_rows.specs.Views.{ViewOf}
use Rattle.cost_rows.proofs.ReachLemmas.{seated_cost}
use Rattle.rib_laws.proofs.RibLookups.{same_test}
use Rattle.rcs_shard.specs.Settling.{class_at, ReachAlike, IsClass, AreClasses, is_in_class}

-- ---- what is reached

cost_past : (edges : List Edge) (members : List Member) (from e : ℕ) → length members ≤ e → is_some (slot_cost edges members from e) ≡ false
cost_past edges members from e past = at (slot_cost edges members from e) refl where
  at : (o : Option ℕ) → slot_cost edges members from e ≡ o → is_some (slot_cost edges members from e) ≡ false
  at None is = ap is_some is
  at (Some n) is = let low = seated_cost edges members from e n is in absurd (omega arith)

-- two slots that reach the same of the members reach the same
pub alike_all : (view : ViewOf) (a b : ℕ) (n : ℕ) → length view.members ≤ n
    → ((e : ℕ) → e < n → is_some (slot_cost view.edges view.members a e) ≡ is_some (slot_cost view.edges view.members b e)) → ReachAlike view a b
alike_all view a b n all below e = elim (cases_lt e n) [
  | inl low ↦ below e low
  | inr past ↦ cost_past view.edges view.members a e (omega arith) ∙ sym (cost_past view.edges view.members b e (omega arith))
]

-- ---- one class more

module _ (view : ViewOf) (classes : List ℕ) (slot found : ℕ) (within : slot < length classes) (known : (s : ℕ) → s < slot → IsClass view classes s)
    (low : found ≤ slot) (own : found < slot → class_at classes found ≡ found) (alike : ReachAlike view slot found) where
  there : class_at (set classes slot found) slot ≡ found
  there = get_or-set_same classes slot found 0 within

  other : (s : ℕ) → s < slot → class_at (set classes slot found) s ≡ class_at classes s
  other s below = let differs : s ≡ slot → ⊥ = λ same. absurd (omega arith) in get_or-set_other classes slot s found 0 differs

  before : (s : ℕ) → s < slot → IsClass view (set classes slot found) s
  before s below =
      let was = known s below in
      record {
        low = subst (λ c. c ≤ s) (sym (other s below)) was.low;
        own = ap (class_at (set classes slot found)) (other s below) ∙ other (class_at classes s) (omega (arith, was.low)) ∙ was.own ∙ sym (other s below);
        alike = subst (ReachAlike view s) (sym (other s below)) was.alike;
      }

  here : IsClass view (set classes slot found) slot
  here = record {
    low = subst (λ c. c ≤ slot) (sym there) low;
    own = ap (class_at (set classes slot found)) there ∙ its_own ∙ sym there;
    alike = subst (ReachAlike view slot) (sym there) alike;
  } where
    its_own : class_at (set classes slot found) found ≡ found
    its_own = elim (cases_lt found slot) [
      | inl below ↦ other found below ∙ own below
      | inr past ↦ let same : found ≡ slot = omega arith in ap (class_at (set classes slot found)) same ∙ there
    ]

  pub class_more : (s : ℕ) → s < slot + 1 → IsClass view (set classes slot found) s
  class_more s below = elim (cases_lt s slot) [
    | inl less ↦ before s less
    | inr past ↦ let same : slot ≡ s = omega arith in subst (IsClass view (set classes slot found)) same here
  ]

-- ---- slots up to one

module _ (test : ℕ → Bool) where
  pub upto_none : (s : ℕ) → false ≡ (ltb s 0 && test s)
  upto_none s = sym (ap (λ t. t && test s) (le-ltb s 0 (omega arith)))

  pub upto_more : (k : ℕ) → test k ≡ true → (s : ℕ) → ((ltb s k && test s) || eqb s k) ≡ (ltb s (k + 1) && test s)
  upto_more k passes s = same_test _ _
      (λ inside. elim (or_cases (ltb s k && test s) (eqb s k) inside) [
        | inl both ↦ let parts = and_parts (ltb s k) (test s) both in let less = ltb-true s k parts.0 in and_from (ltb s (k + 1)) (test s) (lt-ltb s (k + 1) (omega arith)) parts.1
        | inr same ↦ let is = eqb-true s k same in and_from (ltb s (k + 1)) (test s) (lt-ltb s (k + 1) (omega arith)) (ap test is ∙ passes)
      ])
      (λ both. let parts = and_parts (ltb s (k + 1)) (test s) both in let less = ltb-true s (k + 1) parts.0 in elim (cases_eq s k) [
        | inl same ↦ or_right (ltb s k && test s) (eqb s k) (eq-eqb s k same)
        | inr differs ↦ or_left (ltb s k && test s) (eqb s k) (and_from (ltb s k) (test s) (lt-ltb s k (omega arith)) parts.1)
      ])

  pub upto_skip : (k : ℕ) → test k ≡ false → (s : ℕ) → (ltb s k && test s) ≡ (ltb s (k + 1) && test s)
  upto_skip k fails s = same_test _ _
      (λ both. let parts = and_parts (ltb s k) (test s) both in let less = ltb-true s k parts.0 in and_from (ltb s (k + 1)) (test s) (lt-ltb s (k + 1) (omega arith)) parts.1)
      (λ both. let parts = and_parts (ltb s (k + 1)) (test s) both in let less = ltb-true s (k + 1) parts.0 in elim (cases_eq s k) [
        | inl same ↦ absurd (false≢true (sym fails ∙ ap test (sym same) ∙ parts.1))
        | inr differs ↦ and_from (ltb s k) (test s) (lt-ltb s k (omega arith)) parts.1
      ])

  pub upto_all : (n : ℕ) → ((s : ℕ) → test s ≡ true → s < n) → (s : ℕ) → (ltb s n && test s) ≡ test s
  upto_all n all s = same_test _ _
      (λ both. (and_parts (ltb s n) (test s) both).1)
      (λ passes. and_from (ltb s n) (test s) (lt-ltb s n (all s passes)) passes)

-- ---- slots of the classes up to one

module _ (view : ViewOf) (classes : List ℕ) (are : AreClasses view classes) (up : ℕ → Bool) where
  abbrev pub below_class : ℕ → ℕ → Bool
  below_class c s = (ltb s (length view.members) && ltb (class_at classes s) c) && up s

  pub class_none : (s : ℕ) → false ≡ below_class 0 s
  class_none s = same_test _ _ (λ e. absurd (false≢true e))
      (λ inside. let parts = and_parts (ltb s (length view.members)) (ltb (class_at classes s) 0) (and_parts _ (up s) inside).0 in
      let less = ltb-true (class_at classes s) 0 parts.1 in absurd (omega arith))

  pub class_next : (c : ℕ) (s : ℕ) → (below_class c s || (is_in_class classes c s && up s)) ≡ below_class (c + 1) s
  class_next c s = same_test _ _
      (λ inside. elim (or_cases (below_class c s) (is_in_class classes c s && up s) inside) [
        | inl below ↦
            let outer = and_parts (ltb s (length view.members) && ltb (class_at classes s) c) (up s) below in
            let parts = and_parts (ltb s (length view.members)) (ltb (class_at classes s) c) outer.0 in
            let less = ltb-true (class_at classes s) c parts.1 in
            and_from _ (up s) (and_from (ltb s (length view.members)) (ltb (class_at classes s) (c + 1)) parts.0 (lt-ltb (class_at classes s) (c + 1) (omega arith))) outer.1
        | inr in_it ↦
            let outer = and_parts (is_in_class classes c s) (up s) in_it in
            let parts = and_parts (ltb s (length classes)) (eqb (class_at classes s) c) outer.0 in
            let low = ltb-true s (length classes) parts.0 in
            let is = eqb-true (class_at classes s) c parts.1 in
            and_from _ (up s) (and_from (ltb s (length view.members)) (ltb (class_at classes s) (c + 1)) (lt-ltb s (length view.members) (omega (arith, are.each_member)))
            (lt-ltb (class_at classes s) (c + 1) (omega arith))) outer.1
      ])
      (λ inside.
      let outer = and_parts (ltb s (length view.members) && ltb (class_at classes s) (c + 1)) (up s) inside in
      let parts = and_parts (ltb s (length view.members)) (ltb (class_at classes s) (c + 1)) outer.0 in
      let low = ltb-true s (length view.members) parts.0 in
      let less = ltb-true (class_at classes s) (c + 1) parts.1 in
      elim (cases_eq (class_at classes s) c) [
        | inl is ↦ or_right (below_class c s) (is_in_class classes c s && up s)
            (and_from (is_in_class classes c s) (up s) (and_from (ltb s (length classes)) (eqb (class_at classes s) c) (lt-ltb s (length classes) (omega (arith, are.each_member)))
            (eq-eqb (class_at classes s) c is)) outer.1)
        | inr differs ↦ or_left (below_class c s) (is_in_class classes c s && up s)
            (and_from _ (up s) (and_from (ltb s (length view.members)) (ltb (class_at classes s) c) parts.0 (lt-ltb (class_at classes s) c (omega arith))) outer.1)
      ])

  pub class_skip : (c : ℕ) → (class_at classes c ≡ c → ⊥) → (s : ℕ) → below_class c s ≡ below_class (c + 1) s
  class_skip c differs s = same_test _ _
      (λ below.
      let outer = and_parts (ltb s (length view.members) && ltb (class_at classes s) c) (up s) below in
      let parts = and_parts (ltb s (length view.members)) (ltb (class_at classes s) c) outer.0 in
      let less = ltb-true (class_at classes s) c parts.1 in
      and_from _ (up s) (and_from (ltb s (length view.members)) (ltb (class_at classes s) (c + 1)) parts.0 (lt-ltb (class_at classes s) (c + 1) (omega arith))) outer.1)
      (λ inside.
      let outer = and_parts (ltb s (length view.members) && ltb (class_at classes s) (c + 1)) (up s) inside in
      let parts = and_parts (ltb s (length view.members)) (ltb (class_at classes s) (c + 1)) outer.0 in
      let low = ltb-true s (length view.members) parts.0 in
      let less = ltb-true (class_at classes s) (c + 1) parts.1 in
      elim (cases_eq (class_at classes s) c) [
        | inl is ↦ absurd (differs (ap (class_at classes) (sym is) ∙ (are.right s low).own ∙ is))
        | inr other ↦ and_from _ (up s) (and_from (ltb s (length view.members)) (ltb (class_at classes s) c) parts.0 (lt-ltb (class_at classes s) c (omega arith))) outer.1
      ])

  pub class_all : (c : ℕ) → length view.members ≤ c → (s : ℕ) → below_class c s ≡ (ltb s (length view.members) && up s)
  class_all c past s = same_test _ _
      (λ below.
      let outer = and_parts (ltb s (length view.members) && ltb (class_at classes s) c) (up s) below in
      and_from (ltb s (length view.members)) (up s) (and_parts (ltb s (length view.members)) (ltb (class_at classes s) c) outer.0).0 outer.1)
      (λ inside.
      let parts = and_parts (ltb s (length view.members)) (up s) inside in
      let low = ltb-true s (length view.members) parts.0 in
      let class_low = (are.right s low).low in
      and_from _ (up s) (and_from (ltb s (length view.members)) (ltb (class_at classes s) c) parts.0 (lt-ltb (class_at classes s) c (omega arith))) parts.1)
