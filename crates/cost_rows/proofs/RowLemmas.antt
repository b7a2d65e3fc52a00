-- Rows of costs: the pairs of the routers that were reached.
use Rattle.std.proofs.Common.{◌≡◌, ℕ, suc, ◌<◌, Bool, true, false, cond, ◌==◌, List, [], ◌∷◌, Contains, AllPairs, Option, Some, None, refl, sym, ap, subst, ◌∙◌, inl, inr, arith, eqb-true, eq-eqb, ne_eqb}
use Rattle.std.proofs.lemmas.Bool.{false≢true}
use Rattle.std.proofs.lemmas.List.Kept.{AllPairs-from_increasing, AllPairs-cons}
use Rattle.rcp_model.proofs.MemberLemmas.{Contains-head, Contains-tail, Contains-cases, Contains-none}
use Rattle.rcp_model.proofs.GraphLemmas.{All-from_members}
use Rattle.rcp_base.specs.declared.names.Edge.{Edge}
use Rattle.rcp_base.specs.Maps.{get_at}
use Rattle.rcp_model.specs.LinkState.{same_number}
use Rattle.rcp_model.specs.Graphs.{IsCostRow}
use Rattle.cost_rows.specs.Search.{found_at, reached, IsFound, AreNames}
use Rattle.cost_rows.proofs.NameLemmas.{found-unnamed}

-- the names of the pairs are names
reached_named : (names : List ℕ) (least : List (Option ℕ)) (pair : ℕ × ℕ) → Contains (reached names least) pair → Contains names pair.0
reached_named [] least pair member = absurd (Contains-none pair member)
reached_named (name ∷ names) [] pair member = absurd (Contains-none pair member)
reached_named (name ∷ names) (None ∷ least) pair member = Contains-tail name names pair.0 (reached_named names least pair member)
reached_named (name ∷ names) (Some cost ∷ least) pair member = elim (Contains-cases (name, cost) (reached names least) pair member) [
  | inl same ↦ subst (λ (p : ℕ × ℕ). Contains (name ∷ names) p.0) same (Contains-head name names)
  | inr later ↦ Contains-tail name names pair.0 (reached_named names least pair later)
]

rising-head : (name : ℕ) (names : List ℕ) → AllPairs (λ a b. a < b) (name ∷ names) → (n : ℕ) → Contains names n → name < n
rising-head name names rising n member = subst (λ k. name < k) member.2 (rising 0 (suc member.0) n (omega arith) (omega arith))

rising-tail : (name : ℕ) (names : List ℕ) → AllPairs (λ a b. a < b) (name ∷ names) → AllPairs (λ a b. a < b) names
rising-tail name names rising i j d less within = rising (suc i) (suc j) d (omega arith) (omega arith)

pub reached_rise : (names : List ℕ) (least : List (Option ℕ)) → AllPairs (λ a b. a < b) names → AllPairs (λ (p q : ℕ × ℕ). p.0 < q.0) (reached names least)
reached_rise [] least rising = λ i j d less within. absurd (omega arith)
reached_rise (name ∷ names) [] rising = λ i j d less within. absurd (omega arith)
reached_rise (name ∷ names) (None ∷ least) rising = reached_rise names least (rising-tail name names rising)
reached_rise (name ∷ names) (Some cost ∷ least) rising =
    AllPairs-cons (λ (p q : ℕ × ℕ). p.0 < q.0) (name, cost) (reached names least)
    (All-from_members (λ (q : ℕ × ℕ). name < q.0) (reached names least) (λ q member. rising-head name names rising q.0 (reached_named names least q member)))
    (reached_rise names least (rising-tail name names rising))

same-back : (m n : ℕ) → (m == n) ≡ (n == m)
same-back m n = at_test (n == m) (eqb-true n m) (λ same. eq-eqb n m same) where
  at_test : (t : Bool) → (t ≡ true → n ≡ m) → (n ≡ m → t ≡ true) → (m == n) ≡ t
  at_test true is back = eq-eqb m n (sym (is refl))
  at_test false is back = ne_eqb m n (λ same. false≢true (back (sym same)))

pub get-reached : (names : List ℕ) (least : List (Option ℕ)) (v : ℕ) → AllPairs (λ a b. a < b) names → get_at same_number v (reached names least) ≡ found_at names least v
get-reached [] least v rising = refl
get-reached (name ∷ names) [] v rising = refl
get-reached (name ∷ names) (None ∷ least) v rising = at_test (name == v) (eqb-true name v) (get-reached names least v (rising-tail name names rising)) where
  at_test : (t : Bool) → (t ≡ true → name ≡ v) → get_at same_number v (reached names least) ≡ found_at names least v → get_at same_number v (reached names least) ≡ cond t None (found_at names least v)
  at_test true is rest = rest ∙ found-unnamed names least v (λ member. let h = rising-head name names rising v member in let same : name ≡ v = is refl in omega (arith, h, same))
  at_test false is rest = rest
get-reached (name ∷ names) (Some cost ∷ least) v rising =
    rw (same-back v name) (ap (cond (name == v) (Some cost)) (get-reached names least v (rising-tail name names rising)))

pub row_is : (edges : List Edge) (names : List ℕ) (root : ℕ) (least : List (Option ℕ)) → AreNames edges names → IsFound edges names root least → IsCostRow edges root (reached names least)
row_is edges names root least are found = record {
  rising = reached_rise names least (AllPairs-from_increasing names are.rising);
  exact = λ v. get-reached names least v (AllPairs-from_increasing names are.rising) ∙ found.exact v;
}
