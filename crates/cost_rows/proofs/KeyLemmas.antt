-- The keys by which slots are ranked, and the ranking that sorted keys are.
use Rattle.std.proofs.Common.{◌≡◌, ◌≢◌, ℕ, zero, suc, ◌+◌, ◌<◌, ◌≤◌, Bool, true, false, ◌&&◌, ◌||◌, ◌==◌, nat_lt, ◌⊎◌, ◌↔◌, List, [], ◌∷◌, ◌++◌, length, get_or, AllPairs, Contains, IsTrue, IsSome, Option, Some, None, Ordering, nat_cmp, refl, sym, ap, subst, ◌∙◌, inl, inr, arith}
use Rattle.std.specs.Ordering.{is_lt, ordering_then}
use Rattle.std.specs.List.{IsDistinct}
use Rattle.std.specs.List.Sorted.{IsSorted, IsPermutation}
use Rattle.std.specs.Cmp.{IsTotalOrder}
use Rattle.std.proofs.lemmas.Bool.{eqb-false, false≢true}
use Rattle.std.proofs.lemmas.Bool.Decides.{nat_tests}
use Rattle.std.proofs.lemmas.Cmp.{nat_cmp_total, on_total, then_total}
use Rattle.std.proofs.lemmas.List.{get_or-map, length-map}
use Rattle.std.proofs.lemmas.List.Elements.{Contains-get_or, Contains-push, Contains-push_cases, Contains-append_left, All-contains, All-from_recursion, recursion_from_All}
use Rattle.std.proofs.lemmas.List.Kept.{AllPairs-cons}
use Rattle.std.proofs.lemmas.List.Quantifiers.{all_pairs_push}
use Rattle.std.proofs.lemmas.List.Sorted.{sorted_far, ranks_by, Contains-permutation, IsPermutation-sym}
use Rattle.std.proofs.lemmas.Map.Keys.{IsDistinct-IsPermutation}
use Rattle.std.proofs.lemmas.Option.{same_Some}
use Rattle.rcp_base.specs.declared.names.Member.{Member}
use Rattle.rcp_model.proofs.GraphLemmas.{All-from_members}
use Rattle.rcp_model.specs.Decision.{is_lower_pair}
use Rattle.rcp_model.specs.Graphs.{AreMembers}
use Rattle.cost_rows.specs.Views.{identifier_at, is_nearer_slot, IsRanking, cost_at}
use Rattle.cost_rows.specs.Keys.{Key, slots_of, IsKey, AreKeys}
use Rattle.cost_rows.proofs.EndLemmas.{map_member, member_of_map}

-- ---- identifiers

pub identifier_is : (members : List Member) (slot : ℕ) (member : Member) → slot < length members → member ≡ get_or members slot member → identifier_at members slot ≡ member.bgp_id
identifier_is members slot member within is =
    get_or-map (λ (m : Member). m.bgp_id) members slot member 0 within ∙ ap (λ (m : Member). m.bgp_id) (sym is)

nobody : Member
nobody = record { router = 0; bgp_id = 0 }

identifier_there : (members : List Member) (slot : ℕ) → slot < length members → identifier_at members slot ≡ (get_or members slot nobody).bgp_id
identifier_there members slot within = get_or-map (λ (m : Member). m.bgp_id) members slot nobody 0 within

pub identifiers_apart : (members : List Member) → AreMembers members → (a b : ℕ) → a ≢ b → a < length members → b < length members → identifier_at members a ≢ identifier_at members b
identifiers_apart members are a b other a_within b_within same =
    let equal : (get_or members a nobody).bgp_id ≡ (get_or members b nobody).bgp_id = sym (identifier_there members a a_within) ∙ same ∙ identifier_there members b b_within in
    elim (cases a b other) [
      | inl less ↦ are.identifiers a b nobody less b_within equal
      | inr more ↦ are.identifiers b a nobody more a_within (sym equal)
    ] where
      cases : (a b : ℕ) → a ≢ b → (a < b) ⊎ (b < a)
      cases a b other = grind arith

-- ---- keys, slot by slot

-- the keys of the slots below a number
pub record Keyed (members : List Member) (cost : ℕ → Option ℕ) (keys : List Key) (i : ℕ) : Type 0 where
  pub rising : AllPairs (λ (a b : Key). a.2 < b.2) keys
  pub exact : (key : Key) → Contains keys key ↔ (key.2 < i) × IsKey members cost key

pub keyed_none : (members : List Member) (cost : ℕ → Option ℕ) → Keyed members cost [] 0
keyed_none members cost = record {
  rising = λ i j d less within. absurd (omega arith);
  exact = λ key. (λ member. absurd (omega arith), λ h. absurd (omega arith));
}

none_some : (n : ℕ) → None ≡ Some n → ⊥
none_some n e = cc

below_cases : (k i : ℕ) → k < i + 1 → (k < i) ⊎ (k ≡ i)
below_cases k i less = grind arith

pub keyed_skip : (members : List Member) (cost : ℕ → Option ℕ) (keys : List Key) (i : ℕ) → cost i ≡ None → Keyed members cost keys i → Keyed members cost keys (i + 1)
keyed_skip members cost keys i none keyed = record {
  rising = keyed.rising;
  exact = λ key. (
    λ member. let h = (keyed.exact key).0 member in let less = h.0 in (omega arith, h.1),
    λ h. elim (below_cases key.2 i h.0) [
      | inl less ↦ (keyed.exact key).1 (less, h.1)
      | inr same ↦ absurd (none_some key.0 (sym none ∙ ap cost (sym same) ∙ h.1.0))
    ],
  );
}

pub keyed_push : (members : List Member) (cost : ℕ → Option ℕ) (keys : List Key) (i n id : ℕ) → cost i ≡ Some n → identifier_at members i ≡ id → Keyed members cost keys i → Keyed members cost (keys ++ (n, id, i) ∷ []) (i + 1)
keyed_push members cost keys i n id is named keyed = record {
  rising = all_pairs_push (λ (a b : Key). a.2 < b.2) keys (n, id, i) keyed.rising (λ k d within. ((keyed.exact (get_or keys k d)).0 (Contains-get_or keys k d within)).0);
  exact = λ key. (
    λ member. elim (Contains-push_cases keys (n, id, i) key member) [
      | inl before ↦ let h = (keyed.exact key).0 before in let less = h.0 in (omega arith, h.1)
      | inr same ↦ subst (λ (key : Key). (key.2 < i + 1) × IsKey members cost key) same (omega arith, (is, named))
    ],
    λ h. elim (below_cases key.2 i h.0) [
      | inl less ↦ Contains-append_left keys ((n, id, i) ∷ []) key ((keyed.exact key).1 (less, h.1))
      | inr same ↦ subst (Contains (keys ++ (n, id, i) ∷ [])) (same_key key same h.1) (Contains-push keys (n, id, i))
    ],
  );
} where
  same_key : (key : Key) → key.2 ≡ i → IsKey members cost key → (n, id, i) ≡ key
  same_key (m, other, slot) same h =
      let m_is : n ≡ m = same_Some n m (sym is ∙ ap cost (sym same) ∙ h.0) in
      let id_is : id ≡ other = sym named ∙ ap (identifier_at members) (sym same) ∙ h.1 in
      let slot_is : i ≡ slot = sym same in
      cc

pub cost_read : (costs : List (Option ℕ)) (slot : ℕ) (cost : Option ℕ) → slot < length costs → cost ≡ get_or costs slot cost → cost_at costs slot ≡ cost
cost_read [] slot cost within is = absurd (omega arith)
cost_read (first ∷ costs) zero cost within is = sym is
cost_read (first ∷ costs) (suc slot) cost within is = cost_read costs slot cost (omega arith) is

cost_within : (costs : List (Option ℕ)) (slot n : ℕ) → cost_at costs slot ≡ Some n → slot < length costs
cost_within [] slot n is = absurd (none_some n is)
cost_within (cost ∷ costs) zero n is = omega arith
cost_within (cost ∷ costs) (suc slot) n is = let h = cost_within costs slot n is in omega arith

pub cost_seated : (members : List Member) (costs : List (Option ℕ)) → length costs ≡ length members → (slot n : ℕ) → cost_at costs slot ≡ Some n → slot < length members
cost_seated members costs each slot n is = let h = cost_within costs slot n is in omega arith

pub keyed_all : (members : List Member) (costs : List (Option ℕ)) (keys : List Key) (i : ℕ) → length costs ≡ length members → length members ≤ i → Keyed members (cost_at costs) keys i → AreKeys members (cost_at costs) keys
keyed_all members costs keys i each all keyed = record {
  rising = keyed.rising;
  exact = λ key. (
    λ member. ((keyed.exact key).0 member).1,
    λ h. (keyed.exact key).1 ((let less = cost_seated members costs each key.2 key.0 h.0 in omega arith), h),
  );
}

-- ---- the ranking that sorted keys are

abbrev pub key_cmp : Key → Key → Ordering
key_cmp a b = ordering_then (ordering_then (nat_cmp a.0 b.0) (nat_cmp a.1 b.1)) (nat_cmp a.2 b.2)

total : IsTotalOrder key_cmp
total = then_total (then_total (on_total (λ (k : Key). k.0) nat_cmp_total) (on_total (λ (k : Key). k.1) nat_cmp_total)) (on_total (λ (k : Key). k.2) nat_cmp_total)

abbrev same_slot : Key → Key → Bool
same_slot a b = a.2 == b.2

same_slot-flip : (a b : Key) → same_slot a b ≡ same_slot b a
same_slot-flip a b = flip a.2 b.2 where
  flip : (m n : ℕ) → (m == n) ≡ (n == m)
  flip m n = grind (arith, nat_tests)

distinct_rising : (keys : List Key) → AllPairs (λ (a b : Key). a.2 < b.2) keys → IsDistinct same_slot keys
unfolding IsDistinct
distinct_rising [] rising = tt
distinct_rising (key ∷ keys) rising = (
  recursion_from_All (λ y. same_slot key y ≡ false) keys (λ k d within. let less = rising 0 (suc k) d (omega arith) (omega arith) in apart key.2 (get_or keys k d).2 less),
  distinct_rising keys (λ i j d less within. rising (suc i) (suc j) d (omega arith) (omega arith)),
) where
  apart : (m n : ℕ) → m < n → (m == n) ≡ false
  apart m n less = grind (arith, nat_tests)

apart_distinct : (keys : List Key) → IsDistinct same_slot keys → AllPairs (λ (a b : Key). a.2 ≢ b.2) keys
unfolding IsDistinct
apart_distinct [] distinct = λ i j d less within. absurd (omega arith)
apart_distinct (key ∷ keys) distinct =
    AllPairs-cons (λ (a b : Key). a.2 ≢ b.2) key keys (All-from_members (λ b. key.2 ≢ b.2) keys (λ b member. eqb-false key.2 b.2 (All-contains (λ y. same_slot key y ≡ false) keys b (All-from_recursion (λ y. same_slot key y ≡ false) keys distinct.0) member)))
    (apart_distinct keys distinct.1)

-- neither key after the other, and other identifiers
strictly_before : (m id s n id' s' : ℕ) → is_lt (ordering_then (ordering_then (nat_cmp n m) (nat_cmp id' id)) (nat_cmp s' s)) ≡ false → id ≢ id' → (nat_lt m n || m == n && nat_lt id id') ≡ true
strictly_before m id s n id' s' not_after other = grind (arith, nat_tests)

pub ranking_is : (members : List Member) (cost : ℕ → Option ℕ) (keys sorted : List Key) → AreMembers members → ((slot n : ℕ) → cost slot ≡ Some n → slot < length members) → AreKeys members cost keys
    → IsPermutation keys sorted → IsSorted key_cmp sorted → IsRanking members cost (slots_of sorted)
ranking_is members cost keys sorted are seated keyed moved in_order = record {
  reached = λ slot. (
    λ member. let found = member_of_map (λ (key : Key). key.2) sorted slot member in
        subst (λ s. IsSome (cost s)) found.2 (is_some (cost found.0.2) found.0.0 (key_of found.0 found.1).0),
    λ some. from_cost slot (cost slot) refl some,
  );
  nearest_first = λ i j d less within.
      let i_within : i < length sorted = let n = length-map sorted (λ (key : Key). key.2) in omega arith in
      let j_within : j < length sorted = let n = length-map sorted (λ (key : Key). key.2) in omega arith in
      let a_is = get_or-map (λ (key : Key). key.2) sorted i (0, 0, 0) d i_within in
      let b_is = get_or-map (λ (key : Key). key.2) sorted j (0, 0, 0) d j_within in
      rw (a_is, b_is) (nearer (get_or sorted i (0, 0, 0)) (get_or sorted j (0, 0, 0)) (key_of (get_or sorted i (0, 0, 0)) (Contains-get_or sorted i (0, 0, 0) i_within)) (key_of (get_or sorted j (0, 0, 0)) (Contains-get_or sorted j (0, 0, 0) j_within))
      (apart i j (0, 0, 0) less j_within) (sorted_far (λ a b. is_lt (key_cmp a b)) (ranks_by total (λ (k : Key). k)) sorted in_order i j (0, 0, 0) (omega arith) j_within));
} where
  key_of : (key : Key) → Contains sorted key → IsKey members cost key
  key_of key member = (keyed.exact key).0 (Contains-permutation sorted keys key (IsPermutation-sym keys sorted moved) member)

  apart : AllPairs (λ (a b : Key). a.2 ≢ b.2) sorted
  apart = apart_distinct sorted (IsDistinct-IsPermutation same_slot same_slot-flip keys sorted moved (distinct_rising keys keyed.rising))

  is_some : (o : Option ℕ) (n : ℕ) → o ≡ Some n → IsSome o
  is_some o n is = subst IsSome (sym is) refl

  from_cost : (slot : ℕ) (o : Option ℕ) → cost slot ≡ o → IsSome o → Contains (slots_of sorted) slot
  from_cost slot None is some = absurd (false≢true some)
  from_cost slot (Some n) is some =
      map_member (λ (key : Key). key.2) sorted (n, identifier_at members slot, slot) (Contains-permutation keys sorted (n, identifier_at members slot, slot) moved ((keyed.exact (n, identifier_at members slot, slot)).1 (is, refl)))

  nearer : (a b : Key) → IsKey members cost a → IsKey members cost b → a.2 ≢ b.2 → is_lt (key_cmp b a) ≡ false → is_nearer_slot members cost a.2 b.2
  nearer (m, id, s) (n, id', s') a_is b_is other not_after =
      rw (a_is.0, b_is.0, a_is.1, b_is.1)
      (strictly_before m id s n id' s' not_after (λ same. identifiers_apart members are s s' other (seated s m a_is.0) (seated s' n b_is.0) (a_is.1 ∙ same ∙ sym b_is.1)))

-- a ranking by the same costs
pub ranking_same : (members : List Member) (cost other : ℕ → Option ℕ) (ranked : List ℕ) → ((slot : ℕ) → cost slot ≡ other slot) → IsRanking members cost ranked → IsRanking members other ranked
ranking_same members cost other ranked same ranking = record {
  reached = λ slot. (
    λ member. subst IsSome (same slot) ((ranking.reached slot).0 member),
    λ some. (ranking.reached slot).1 (subst IsSome (sym (same slot)) some),
  );
  nearest_first = λ i j d less within.
      let h = ranking.nearest_first i j d less within in
      subst (λ c. IsTrue (is_lower_pair c (identifier_at members (get_or ranked i d)) (other (get_or ranked j d)) (identifier_at members (get_or ranked j d)))) (same (get_or ranked i d))
      (subst (λ c. IsTrue (is_lower_pair (cost (get_or ranked i d)) (identifier_at members (get_or ranked i d)) c (identifier_at members (get_or ranked j d)))) (same (get_or ranked j d)) h);
}
