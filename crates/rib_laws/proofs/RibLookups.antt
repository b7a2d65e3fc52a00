-- What the bases of routes answer after each of their functions.
use Rattle.std.proofs.Common.{◌≡◌, ℕ, Bool, true, false, cond, not, ◌&&◌, ◌||◌, eqb, List, [], ◌∷◌, map, Option, Some, None, is_some, IsSome, refl, sym, ap, ◌∙◌, inl, inr}
use Rattle.std.specs.FinMap as map_of
use Rattle.std.specs.FinSet as set_of
use Rattle.std.specs.List.{list_any}
use Rattle.std.specs.Ordering.{nat_cmp, eq_by_cmp, is_eq, ordering_then}
use Rattle.std.specs.declared.cmp.Ordering.{Ordering}
use Rattle.std.specs.declared.cmp.Ordering.TheVariants.{Less, Equal, Greater}
use Rattle.std.specs.Cmp.{unsigned_tied}
use Rattle.std.proofs.lemmas.Bool.{and_parts, and_from, or_cases, or_left, or_right, eqb-true, eq-eqb, false≢true}
use Rattle.rcp_base.specs.IpPrefix.{IpPrefix, prefix_cmp}
use Rattle.rcp_base.specs.Maps.{same_prefix}
use Rattle.rcp_model.specs.Ribs.{RibKey, rib_cmp}
use Rattle.rcp_model.specs.ServerRibs.{Values, Rib, with_value, without_slot, prefixes_of, with_each}
use Rattle.rcp_model.proofs.RibLemmas.{prefix_total, rib_total, rib_exact, rib_tied}

-- ---- tests

-- tests that say the same answer the same
pub same_test : (a b : Bool) → (a ≡ true → b ≡ true) → (b ≡ true → a ≡ true) → a ≡ b
same_test true b to from = sym (to refl)
same_test false true to from = from refl
same_test false false to from = refl

tied_then : (first second : Ordering) → is_eq (ordering_then first second) ≡ (is_eq first && is_eq second)
tied_then Less second = refl
tied_then Equal second = refl
tied_then Greater second = refl

pub prefix_tied : (p q : IpPrefix) → eq_by_cmp prefix_cmp p q ≡ same_prefix p q
prefix_tied p q = tied_then (nat_cmp p.addr q.addr) (nat_cmp p.len q.len) ∙ (λ i. unsigned_tied p.addr q.addr i && unsigned_tied p.len q.len i)

pub key_tied : (k l : RibKey) → eq_by_cmp rib_cmp k l ≡ (same_prefix k.0 l.0 && eqb k.1 l.1)
key_tied k l = rib_tied k l ∙ ap (λ (b : Bool). b && eqb k.1 l.1) (prefix_tied k.0 l.0)

pub turned : {A : Type 0} (b : Bool) (x y : A) → cond (not b) x y ≡ cond b y x
turned true x y = refl
turned false x y = refl

-- ---- look-ups

pub get-with_value : {V : Type 0} (key : RibKey) (value : Option V) (rib : Rib V) (k : RibKey) → map_of.get (with_value key value rib) k ≡ cond (same_prefix k.0 key.0 && eqb k.1 key.1) value (map_of.get rib k)
get-with_value key None rib k = map_of.get-remove rib_total rib key k ∙ ap (λ b. cond b None (map_of.get rib k)) (key_tied k key)
get-with_value key (Some value) rib k = map_of.get-insert rib_total rib key value k ∙ ap (λ b. cond b (Some value) (map_of.get rib k)) (key_tied k key)

pub get-retained : {V : Type 0} (test : RibKey → Bool) (rib : Rib V) (k : RibKey) → map_of.get (map_of.retain_keys rib test) k ≡ cond (test k) (map_of.get rib k) None
get-retained test rib k = map_of.get-retain_keys rib test k (λ x tied. sym (ap test (rib_exact k x tied)))

pub get-without_slot : {V : Type 0} (slot : ℕ) (rib : Rib V) (k : RibKey) → map_of.get (without_slot slot rib) k ≡ cond (eqb k.1 slot) None (map_of.get rib k)
get-without_slot slot rib k = get-retained (λ key. not (eqb key.1 slot)) rib k ∙ turned (eqb k.1 slot) (map_of.get rib k) None

-- a slot in whose favour several stand, at its own octets
each_case : {A : Type 0} (a b c : Bool) (x y z : A) → (b ≡ true → x ≡ y) → cond (a && b) x (cond (a && c) y z) ≡ cond (a && (b || c)) y z
each_case false b c x y z same = refl
each_case true true c x y z same = same refl
each_case true false c x y z same = refl

none_of : {A : Type 0} (a : Bool) (x y : A) → y ≡ cond (a && false) x y
none_of true x y = refl
none_of false x y = refl

pub get-with_each : {V : Type 0} (p : IpPrefix) (octets : Values V) (slots : List ℕ) (rib : Rib V) (k : RibKey)
    → map_of.get (with_each p octets slots rib) k ≡ cond (same_prefix k.0 p && list_any (eq_by_cmp nat_cmp k.1) slots) (octets k.1) (map_of.get rib k)
get-with_each p octets [] rib k = none_of (same_prefix k.0 p) (octets k.1) (map_of.get rib k)
get-with_each p octets (slot ∷ slots) rib k =
    get-with_value (p, slot) (octets slot) (with_each p octets slots rib) k
    ∙ ap (cond (same_prefix k.0 p && eqb k.1 slot) (octets slot)) (get-with_each p octets slots rib k)
    ∙ each_case (same_prefix k.0 p) (eqb k.1 slot) (list_any (eq_by_cmp nat_cmp k.1) slots) (octets slot) (octets k.1) (map_of.get rib k) (λ e. ap octets (sym (eqb-true k.1 slot e)))
    ∙ ap (λ b. cond (same_prefix k.0 p && (b || list_any (eq_by_cmp nat_cmp k.1) slots)) (octets k.1) (map_of.get rib k)) (sym (unsigned_tied k.1 slot))

-- ---- the prefixes of some slots

-- a slot that passes the test and has octets at the prefix
pub record Has {V : Type 0} (test : ℕ → Bool) (rib : Rib V) (p : IpPrefix) : Type 0 where
  pub slot : ℕ
  pub passes : test slot ≡ true
  pub there : IsSome (map_of.get rib (p, slot))

any_of_keys : (keys : List RibKey) (p : IpPrefix) → list_any (eq_by_cmp prefix_cmp p) (map (λ k. k.0) keys) ≡ true → (slot : ℕ) × (list_any (eq_by_cmp rib_cmp (p, slot)) keys ≡ true)
any_of_keys [] p any = absurd (false≢true any)
any_of_keys (k ∷ keys) p any = elim (or_cases (eq_by_cmp prefix_cmp p k.0) (list_any (eq_by_cmp prefix_cmp p) (map (λ l. l.0) keys)) any) [
  | inl here ↦ (k.1, or_left (eq_by_cmp rib_cmp (p, k.1) k) (list_any (eq_by_cmp rib_cmp (p, k.1)) keys) (rib_tied (p, k.1) k ∙ and_from (eq_by_cmp prefix_cmp p k.0) (eqb k.1 k.1) here (eq-eqb k.1 k.1 refl)))
  | inr later ↦ let found = any_of_keys keys p later in (found.0, or_right (eq_by_cmp rib_cmp (p, found.0) k) (list_any (eq_by_cmp rib_cmp (p, found.0)) keys) found.1)
]

key_of_any : (keys : List RibKey) (p : IpPrefix) (slot : ℕ) → list_any (eq_by_cmp rib_cmp (p, slot)) keys ≡ true → list_any (eq_by_cmp prefix_cmp p) (map (λ k. k.0) keys) ≡ true
key_of_any [] p slot any = absurd (false≢true any)
key_of_any (k ∷ keys) p slot any = elim (or_cases (eq_by_cmp rib_cmp (p, slot) k) (list_any (eq_by_cmp rib_cmp (p, slot)) keys) any) [
  | inl here ↦ or_left (eq_by_cmp prefix_cmp p k.0) (list_any (eq_by_cmp prefix_cmp p) (map (λ l. l.0) keys)) (and_parts (eq_by_cmp prefix_cmp p k.0) (eqb slot k.1) (sym (rib_tied (p, slot) k) ∙ here)).0
  | inr later ↦ or_right (eq_by_cmp prefix_cmp p k.0) (list_any (eq_by_cmp prefix_cmp p) (map (λ l. l.0) keys)) (key_of_any keys p slot later)
]

module _ {V : Type 0} (test : ℕ → Bool) (rib : Rib V) (p : IpPrefix) where
  kept : Rib V
  kept = map_of.retain_keys rib (λ key. test key.1)

  kept_at : (slot : ℕ) → map_of.contains_key kept (p, slot) ≡ is_some (cond (test slot) (map_of.get rib (p, slot)) None)
  unfolding kept
  kept_at slot = ap is_some (get-retained (λ key. test key.1) rib (p, slot))

  passed : (b : Bool) (o : Option V) → is_some (cond b o None) ≡ true → (b ≡ true) × IsSome o
  passed true o some = (refl, some)
  passed false o some = absurd (false≢true some)

  passing : (b : Bool) (o : Option V) → b ≡ true → IsSome o → is_some (cond b o None) ≡ true
  passing true o e some = some
  passing false o e some = absurd (false≢true e)

  pub has_of_prefixes : set_of.contains (prefixes_of test rib) p ≡ true → Has test rib p
  unfolding kept
  has_of_prefixes inside =
      let found = any_of_keys (map_of.keys kept) p (sym (set_of.contains-from_list prefix_total (map (λ k. k.0) (map_of.keys kept)) p) ∙ inside) in
      let both = passed (test found.0) (map_of.get rib (p, found.0)) (sym (kept_at found.0) ∙ map_of.contains_key-keys kept (p, found.0) ∙ found.1) in
      record { slot = found.0; passes = both.0; there = both.1 }

  pub prefixes_of_has : Has test rib p → set_of.contains (prefixes_of test rib) p ≡ true
  unfolding kept
  prefixes_of_has has =
      set_of.contains-from_list prefix_total (map (λ k. k.0) (map_of.keys kept)) p
      ∙ key_of_any (map_of.keys kept) p has.slot
      (sym (map_of.contains_key-keys kept (p, has.slot)) ∙ kept_at has.slot ∙ passing (test has.slot) (map_of.get rib (p, has.slot)) has.passes has.there)
