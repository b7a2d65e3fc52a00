-- Rows: a cost looked up among pairs whose routers rise.
use Rattle.std.proofs.Common.{◌≡◌, ◌≢◌, ℕ, zero, suc, ◌<◌, ◌≤◌, Bool, true, false, cond, if◌then◌else◌, ◌==◌, ◌⊎◌, inl, inr, nat_lt, List, [], ◌∷◌, length, get_or, slice_get, AllPairs, Contains, Option, Some, None, refl, sym, subst, arith, eqb-true, eq-eqb, ne_eqb}
use Rattle.std.specs.List.{AllWithin}
use Rattle.std.specs.List.Sorted.{IsPartitionedBy}
use Rattle.std.proofs.lemmas.Bool.{eqb-false}
use Rattle.std.proofs.lemmas.Bool.Decides.{nat_tests}
use Rattle.rcp_model.proofs.MemberLemmas.{Contains-head, Contains-tail}
use Rattle.rcp_base.specs.Maps.{get_at}
use Rattle.rcp_model.specs.LinkState.{same_number}

pub routers_partition : (pairs : List (ℕ × ℕ)) → AllPairs (λ (a b : ℕ × ℕ). a.0 < b.0) pairs → (v : ℕ) → IsPartitionedBy (λ (pair : ℕ × ℕ). nat_lt pair.0 v) pairs
routers_partition pairs rising v i j d le within h = elim (cases i j le) [
  | inl same ↦ subst (λ k. nat_lt (get_or pairs k d).0 v ≡ true) (sym same) h
  | inr less ↦ let rise = rising i j d less within in below (get_or pairs i d).0 (get_or pairs j d).0 v rise h
] where
  cases : (i j : ℕ) → i ≤ j → (i ≡ j) ⊎ (i < j)
  cases i j le = grind arith

  below : (m n v : ℕ) → m < n → nat_lt n v ≡ true → nat_lt m v ≡ true
  below m n v less h = grind (arith, nat_tests)

get_at-none : (v : ℕ) (pairs : List (ℕ × ℕ)) → ((pair : ℕ × ℕ) → Contains pairs pair → v ≢ pair.0) → get_at same_number v pairs ≡ None
get_at-none v [] other = refl
get_at-none v (pair ∷ pairs) other = rw (ne_eqb v pair.0 (other pair (Contains-head pair pairs))) (get_at-none v pairs (λ p member. other p (Contains-tail pair pairs p member)))

-- the pair at a place, where it is the router's
abbrev pub cost_of_pair : ℕ → Option (ℕ × ℕ) → Option ℕ
cost_of_pair v None = None
cost_of_pair v (Some pair) = if pair.0 == v then Some pair.1 else None

pub get_at_place : (v : ℕ) (pairs : List (ℕ × ℕ)) (place : ℕ) → AllPairs (λ (a b : ℕ × ℕ). a.0 < b.0) pairs → AllWithin (λ (pair : ℕ × ℕ). nat_lt pair.0 v ≡ true) pairs 0 place
    → AllWithin (λ (pair : ℕ × ℕ). nat_lt pair.0 v ≡ false) pairs place (length pairs) → get_at same_number v pairs ≡ cost_of_pair v (slice_get pairs place)
get_at_place v [] place rising before after = refl
get_at_place v (pair ∷ pairs) (suc place) rising before after =
    rw (ne_eqb v pair.0 (λ same. less pair.0 v (before 0 pair (omega arith) (omega arith)) same))
    (get_at_place v pairs place (λ i j d lt within. rising (suc i) (suc j) d (omega arith) (omega arith)) (λ k d at_least below. before (suc k) d (omega arith) (omega arith)) (λ k d at_least below. after (suc k) d (omega arith) (omega arith))) where
      less : (m v : ℕ) → nat_lt m v ≡ true → v ≡ m → ⊥
      less m v h same = grind (arith, nat_tests)
get_at_place v (pair ∷ pairs) zero rising before after = at_test (pair.0 == v) (eqb-true pair.0 v) (eqb-false pair.0 v) where
  no_way : (m n v : ℕ) → m < n → nat_lt m v ≡ false → m ≢ v → v ≡ n → ⊥
  no_way m n v less low differs same = grind (arith, nat_tests)

  later : pair.0 ≢ v → (p : ℕ × ℕ) → Contains pairs p → v ≢ p.0
  later differs p member same =
      let rise : pair.0 < p.0 = subst (λ (q : ℕ × ℕ). pair.0 < q.0) member.2 (rising 0 (suc member.0) p (omega arith) (omega arith)) in
      no_way pair.0 p.0 v rise (after 0 pair (omega arith) (omega arith)) differs same

  at_test : (t : Bool) → (t ≡ true → pair.0 ≡ v) → (t ≡ false → pair.0 ≢ v) → get_at same_number v (pair ∷ pairs) ≡ cond t (Some pair.1) None
  at_test true same other = rw (eq-eqb v pair.0 (sym (same refl))) refl
  at_test false same other = rw (ne_eqb v pair.0 (λ is. other refl (sym is))) (get_at-none v pairs (later (other refl)))
