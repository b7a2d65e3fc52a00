-- Pairs whose cost changed: those of one row, and those of the rows before it.
use Rattle.std.proofs.Common.{◌≡◌, ◌≢◌, ℕ, zero, suc, ◌<◌, ◌≤◌, Bool, true, false, cond, ◌==◌, ◌||◌, ◌&&◌, nat_lt, ◌⊎◌, ◌↔◌, List, [], ◌∷◌, ◌++◌, length, set, AllPairs, Contains, IsTrue, Option, Some, None, refl, sym, ap, subst, inl, inr, arith, eqb-true, eq-eqb}
use Rattle.std.specs.List.{cons_option}
use Rattle.std.specs.List.Sorted.{IsStrictlyIncreasing}
use Rattle.std.proofs.lemmas.Bool.{false≢true, eqb-false}
use Rattle.std.proofs.lemmas.Bool.Decides.{nat_tests}
use Rattle.std.proofs.lemmas.List.Elements.{Contains-append_left, Contains-append_right, Contains-append_cases}
use Rattle.std.proofs.lemmas.List.Kept.{AllPairs-cons}
use Rattle.rcp_model.proofs.MemberLemmas.{Contains-head, Contains-tail, Contains-cases, Contains-none}
use Rattle.rcp_model.proofs.GraphLemmas.{All-from_members}
use Rattle.rcp_model.specs.RouteServer.{same_cost}
use Rattle.cost_rows.specs.Search.{found_at}
use Rattle.cost_rows.specs.Engines.{is_pair_before, AreChanges}
use Rattle.cost_rows.proofs.NameLemmas.{apart, apart-head, apart-tail}
use Rattle.spf_incr.specs.Changes.{changed_pairs}
use Rattle.spf_incr.specs.Tables.{row_at, costs_by}

pub same-cost : (a b : Option ℕ) → same_cost a b ≡ true → a ≡ b
same-cost None None h = refl
same-cost None (Some n) h = absurd (false≢true h)
same-cost (Some m) None h = absurd (false≢true h)
same-cost (Some m) (Some n) h = ap Some (eqb-true m n h)

pub other-cost : (a b : Option ℕ) → same_cost a b ≡ false → a ≢ b
other-cost None None h same = false≢true (sym h)
other-cost None (Some n) h same = cc
other-cost (Some m) None h same = cc
other-cost (Some m) (Some n) h same = eqb-false m n h (inside m n same) where
  inside : (m n : ℕ) → Some m ≡ Some n → m ≡ n
  inside m n e = cc

cost-itself : (a : Option ℕ) → same_cost a a ≡ true
cost-itself None = refl
cost-itself (Some n) = eq-eqb n n refl

-- a row that stays has no pair
pub changed-none : (slot : ℕ) (names : List ℕ) (row : List (Option ℕ)) → changed_pairs slot names row row ≡ []
changed-none slot [] row = refl
changed-none slot (name ∷ names) [] = refl
changed-none slot (name ∷ names) (r ∷ row) = rw (cost-itself r) (changed-none slot names row)

-- each pair is of the slot and of one of the names
changed_named : (slot : ℕ) (names : List ℕ) (old new : List (Option ℕ)) (pair : ℕ × ℕ) → Contains (changed_pairs slot names old new) pair → (pair.0 ≡ slot) × Contains names pair.1
changed_named slot [] old new pair member = absurd (Contains-none pair member)
changed_named slot (name ∷ names) [] new pair member = absurd (Contains-none pair member)
changed_named slot (name ∷ names) (a ∷ old) [] pair member = absurd (Contains-none pair member)
changed_named slot (name ∷ names) (a ∷ old) (b ∷ new) pair member =
    at_test (λ inside. let rest = changed_named slot names old new pair inside in (rest.0, Contains-tail name names pair.1 rest.1)) (same_cost a b) refl where
      at_test : (Contains (changed_pairs slot names old new) pair → (pair.0 ≡ slot) × Contains (name ∷ names) pair.1) → (t : Bool) → same_cost a b ≡ t → (pair.0 ≡ slot) × Contains (name ∷ names) pair.1
      at_test later true is = later (rw is at member)
      at_test later false is = elim (Contains-cases (slot, name) (changed_pairs slot names old new) pair (rw is at member)) [
        | inl same ↦ subst (λ (p : ℕ × ℕ). (p.0 ≡ slot) × Contains (name ∷ names) p.1) same (refl, Contains-head name names)
        | inr inside ↦ later inside
      ]

module _ (slot : ℕ) where
  -- exactly the routers whose cost isn't the same
  pub changed_exact : (names : List ℕ) (old new : List (Option ℕ)) (v : ℕ) → AllPairs (λ a b. a ≢ b) names → length old ≡ length names → length new ≡ length names
      → Contains (changed_pairs slot names old new) (slot, v) ↔ (found_at names old v ≢ found_at names new v)
  changed_exact [] old new v distinct same same' = (λ member. absurd (Contains-none (slot, v) member), λ other. absurd (other refl))
  changed_exact (name ∷ names) [] new v distinct same same' = absurd (omega arith)
  changed_exact (name ∷ names) (a ∷ old) [] v distinct same same' = absurd (omega arith)
  changed_exact (name ∷ names) (a ∷ old) (b ∷ new) v distinct same same' = at_tests (changed_exact names old new v (apart-tail name names distinct) (omega arith) (omega arith)) (name == v) (eqb-true name v) (eqb-false name v) (same_cost a b) refl where
    not_later : name ≡ v → Contains (changed_pairs slot names old new) (slot, v) → ⊥
    not_later is inside = apart-head name names distinct (subst (Contains names) (sym is) (changed_named slot names old new (slot, v) inside).1)

    pair_name : ◌≡◌ {A = ℕ × ℕ} (slot, name) (slot, v) → name ≡ v
    pair_name e = ap (λ (p : ℕ × ℕ). p.1) e

    at_tests : (Contains (changed_pairs slot names old new) (slot, v) ↔ (found_at names old v ≢ found_at names new v)) → (t : Bool) → (t ≡ true → name ≡ v) → (t ≡ false → name ≢ v) → (s : Bool) → same_cost a b ≡ s
        → Contains (changed_pairs slot (name ∷ names) (a ∷ old) (b ∷ new)) (slot, v) ↔ (cond t a (found_at names old v) ≢ cond t b (found_at names new v))
    at_tests rest true is other true e = (
      λ member. absurd (not_later (is refl) (rw e at member)),
      λ differs. absurd (differs (same-cost a b e)),
    )
    at_tests rest true is other false e = (
      λ member. other-cost a b e,
      λ differs. rw e (subst (λ w. Contains ((slot, name) ∷ changed_pairs slot names old new) (slot, w)) (is refl) (Contains-head (slot, name) (changed_pairs slot names old new))),
    )
    at_tests rest false is other true e = rw e rest
    at_tests rest false is other false e = (
      λ member. elim (Contains-cases (slot, name) (changed_pairs slot names old new) (slot, v) (rw e at member)) [ inl same ↦ absurd (other refl (pair_name same)) | inr inside ↦ rest.0 inside ],
      λ differs. rw e (Contains-tail (slot, name) (changed_pairs slot names old new) (slot, v) (rest.1 differs)),
    )

  pair_before : (a b : ℕ) → a < b → is_pair_before (slot, a) (slot, b) ≡ true
  pair_before a b less = tests slot a b less where
    tests : (s a b : ℕ) → a < b → (nat_lt s s || s == s && nat_lt a b) ≡ true
    tests s a b less = grind (arith, nat_tests)

  pub changed_rising : (names : List ℕ) (old new : List (Option ℕ)) → AllPairs (λ a b. a < b) names → AllPairs (λ a b. IsTrue (is_pair_before a b)) (changed_pairs slot names old new)
  changed_rising [] old new rising = λ i j d less within. absurd (omega arith)
  changed_rising (name ∷ names) [] new rising = λ i j d less within. absurd (omega arith)
  changed_rising (name ∷ names) (a ∷ old) [] rising = λ i j d less within. absurd (omega arith)
  changed_rising (name ∷ names) (a ∷ old) (b ∷ new) rising = at_test (changed_rising names old new (λ i j d less within. rising (suc i) (suc j) d (omega arith) (omega arith))) (same_cost a b) where
    first : (pair : ℕ × ℕ) → Contains (changed_pairs slot names old new) pair → IsTrue (is_pair_before (slot, name) pair)
    first pair member =
        let named = changed_named slot names old new pair member in
        let less : name < pair.1 = subst (λ w. name < w) named.1.2 (rising 0 (suc named.1.0) pair.1 (omega arith) (let h = named.1.1 in omega arith)) in
        subst (λ s. IsTrue (is_pair_before (slot, name) (s, pair.1))) (sym named.0) (pair_before name pair.1 less)

    at_test : AllPairs (λ a b. IsTrue (is_pair_before a b)) (changed_pairs slot names old new) → (t : Bool) → AllPairs (λ a b. IsTrue (is_pair_before a b)) (cons_option (cond {A = Option (ℕ × ℕ)} t None (Some (slot, name))) (changed_pairs slot names old new))
    at_test rest true = rest
    at_test rest false = AllPairs-cons (λ a b. IsTrue (is_pair_before a b)) (slot, name) (changed_pairs slot names old new) (All-from_members (λ pair. IsTrue (is_pair_before (slot, name) pair)) (changed_pairs slot names old new) first) rest

-- ---- after the pairs of earlier slots

all_pairs_append : {X : Type 0} (R : X → X → Type 0) (xs ys : List X) → AllPairs R xs → AllPairs R ys → ((x y : X) → Contains xs x → Contains ys y → R x y) → AllPairs R (xs ++ ys)
all_pairs_append R [] ys first later cross = later
all_pairs_append R (x ∷ xs) ys first later cross =
    AllPairs-cons R x (xs ++ ys)
    (All-from_members (R x) (xs ++ ys) (λ y member. elim (Contains-append_cases xs ys y member) [
      | inl inside ↦ subst (R x) inside.2 (first 0 (suc inside.0) y (omega arith) (let h = inside.1 in omega arith))
      | inr after ↦ cross x y (Contains-head x xs) after
    ]))
    (all_pairs_append R xs ys (λ i j d less within. first (suc i) (suc j) d (omega arith) (omega arith)) later (λ a b member member'. cross a b (Contains-tail x xs a member) member'))

slot_before : (a b : ℕ × ℕ) → a.0 < b.0 → is_pair_before a b ≡ true
slot_before a b less = tests a.0 a.1 b.0 b.1 less where
  tests : (p q r s : ℕ) → p < r → (nat_lt p r || p == r && nat_lt q s) ≡ true
  tests p q r s less = grind (arith, nat_tests)

cases3 : (m n : ℕ) → (m < n) ⊎ ((m ≡ n) ⊎ (n < m))
cases3 m n = grind arith

pub row-set : (rows : List (List (Option ℕ))) (slot other : ℕ) (new : List (Option ℕ)) → other ≢ slot → row_at (set rows slot new) other ≡ row_at rows other
row-set [] slot other new differs = refl
row-set (row ∷ rows) zero zero new differs = absurd (differs refl)
row-set (row ∷ rows) zero (suc other) new differs = refl
row-set (row ∷ rows) (suc slot) zero new differs = refl
row-set (row ∷ rows) (suc slot) (suc other) new differs = row-set rows slot other new (λ same. differs (ap suc same))

pub row-set_here : (rows : List (List (Option ℕ))) (slot : ℕ) (new : List (Option ℕ)) → slot < length rows → row_at (set rows slot new) slot ≡ new
row-set_here [] slot new less = absurd (omega arith)
row-set_here (row ∷ rows) zero new less = refl
row-set_here (row ∷ rows) (suc slot) new less = row-set_here rows slot new (omega arith)

-- the changed pairs once the row of one more slot is another
pub changes_step : (names : List ℕ) (start rows : List (List (Option ℕ))) (pairs : List (ℕ × ℕ)) (slot : ℕ) (new : List (Option ℕ)) → IsStrictlyIncreasing names → AllPairs (λ a b. a < b) names
    → ((other : ℕ) → slot ≤ other → row_at rows other ≡ row_at start other) → slot < length rows → length (row_at rows slot) ≡ length names → length new ≡ length names
    → AreChanges (costs_by names start) (costs_by names rows) pairs → AreChanges (costs_by names start) (costs_by names (set rows slot new)) (pairs ++ changed_pairs slot names (row_at rows slot) new)
changes_step names start rows pairs slot new increasing rising rest within same same' are = record {
  rising = all_pairs_append (λ a b. IsTrue (is_pair_before a b)) pairs (changed_pairs slot names (row_at rows slot) new) are.rising (changed_rising slot names (row_at rows slot) new rising)
      (λ a b member member'. let less = earlier a member in let is = (changed_named slot names (row_at rows slot) new b member').0 in slot_before a b (omega arith));
  exact = λ s router. by_order s router (cases3 s slot);
} where
  earlier : (pair : ℕ × ℕ) → Contains pairs pair → pair.0 < slot
  earlier pair member = elim (cases3 pair.0 slot) [
    | inl less ↦ less
    | inr le ↦ absurd ((are.exact pair.0 pair.1).0 member (ap (λ row. found_at names row pair.1) (sym (rest pair.0 (at_least pair.0 slot le)))))
  ] where
    at_least : (m n : ℕ) → (m ≡ n) ⊎ (n < m) → n ≤ m
    at_least m n cases = grind arith

  members : (s router : ℕ) → Contains (pairs ++ changed_pairs slot names (row_at rows slot) new) (s, router) ↔ (Contains pairs (s, router) ⊎ Contains (changed_pairs slot names (row_at rows slot) new) (s, router))
  members s router = (
    λ member. Contains-append_cases pairs (changed_pairs slot names (row_at rows slot) new) (s, router) member,
    λ either. elim either [
      | inl inside ↦ Contains-append_left pairs (changed_pairs slot names (row_at rows slot) new) (s, router) inside
      | inr inside ↦ Contains-append_right pairs (changed_pairs slot names (row_at rows slot) new) (s, router) inside
    ],
  )

  another : (s router : ℕ) → s ≢ slot → Contains (pairs ++ changed_pairs slot names (row_at rows slot) new) (s, router) ↔ (costs_by names start s router ≢ costs_by names (set rows slot new) s router)
  another s router differs = rw (row-set rows slot s new differs) (
    λ member. elim ((members s router).0 member) [ inl inside ↦ (are.exact s router).0 inside | inr inside ↦ absurd (differs (changed_named slot names (row_at rows slot) new (s, router) inside).0) ],
    λ other. (members s router).1 (inl ((are.exact s router).1 other)),
  )

  here : (router : ℕ) → Contains (pairs ++ changed_pairs slot names (row_at rows slot) new) (slot, router) ↔ (costs_by names start slot router ≢ costs_by names (set rows slot new) slot router)
  here router = rw (row-set_here rows slot new within, sym (rest slot (omega arith))) (
    λ member. elim ((members slot router).0 member) [ inl inside ↦ absurd (let h = earlier (slot, router) inside in omega arith) | inr inside ↦ (changed_exact slot names (row_at rows slot) new router (apart names increasing) same same').0 inside ],
    λ other. (members slot router).1 (inr ((changed_exact slot names (row_at rows slot) new router (apart names increasing) same same').1 other)),
  )

  by_order : (s router : ℕ) → (s < slot) ⊎ ((s ≡ slot) ⊎ (slot < s)) → Contains (pairs ++ changed_pairs slot names (row_at rows slot) new) (s, router) ↔ (costs_by names start s router ≢ costs_by names (set rows slot new) s router)
  by_order s router cases = elim cases [
    | inl less ↦ another s router (λ same. let h : s < slot = less in omega arith)
    | inr rest ↦ elim rest [
      | inl same ↦ subst (λ s. Contains (pairs ++ changed_pairs slot names (row_at rows slot) new) (s, router) ↔ (costs_by names start s router ≢ costs_by names (set rows slot new) s router)) (sym same) (here router)
      | inr more ↦ another s router (λ same. let h : slot < s = more in omega arith)
    ]
  ]
