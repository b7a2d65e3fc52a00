-- Names that rise, and what stands beside them.
use Rattle.std.proofs.Common.{◌≡◌, ◌≢◌, ℕ, zero, suc, ◌<◌, ◌≤◌, Bool, true, false, cond, ◌==◌, ◌⊎◌, List, [], ◌∷◌, length, get_or, set, Contains, AllPairs, Option, Some, None, Result, Ok, Err, MatchResult, slice_get, nat_cmp, refl, sym, ap, subst, ◌∙◌, inl, inr, arith, eqb-true, eq-eqb, ne_eqb}
use Rattle.std.specs.List.Sorted.{IsStrictlyIncreasing, IsBinarySearchResult}
use Rattle.std.proofs.lemmas.List.{get_or_default}
use Rattle.std.proofs.lemmas.List.Kept.{AllPairs-from_increasing}
use Rattle.std.proofs.lemmas.List.Sorted.{searched}
use Rattle.std.proofs.lemmas.Option.{slice_get-get_or, slice_get_within, get_or_from_slice_get}
use Rattle.rcp_model.proofs.MemberLemmas.{Contains-head, Contains-tail}
use Rattle.cost_rows.specs.Search.{found_at}

-- ---- the place of a name

pub names_rise : (names : List ℕ) → IsStrictlyIncreasing names → (i j : ℕ) → i ≤ j → j < length names → get_or names i 0 ≤ get_or names j 0
names_rise names rising i j le within = elim (cases i j le) [
  | inl same ↦ subst (λ k. get_or names i 0 ≤ get_or names k 0) same (omega arith)
  | inr less ↦ let h = AllPairs-from_increasing names rising i j 0 less within in omega (arith, h)
] where
  cases : (i j : ℕ) → i ≤ j → (i ≡ j) ⊎ (i < j)
  cases i j le = grind arith

pub name_found : (names : List ℕ) (name : ℕ) (r : Result ℕ ℕ) → IsBinarySearchResult (λ y. nat_cmp y name) names r → IsStrictlyIncreasing names → Contains names name
    → MatchResult r (λ place. slice_get names place ≡ Some name) (λ place. ⊥)
name_found names name r position rising member = of_search r (searched names name r position (names_rise names rising)) where
  cases : (k i : ℕ) → (k < i) ⊎ (i ≤ k)
  cases k i = grind arith

  of_search : (r : Result ℕ ℕ) → MatchResult r (λ i. (i < length names) × (get_or names i 0 ≡ name)) (λ i. (i ≤ length names) × ((k : ℕ) → k < i → get_or names k 0 < name) × ((k : ℕ) → i ≤ k → k < length names → name < get_or names k 0))
      → MatchResult r (λ place. slice_get names place ≡ Some name) (λ place. ⊥)
  of_search (Ok i) found = slice_get-get_or names i 0 found.0 ∙ ap Some found.1
  of_search (Err i) found =
      let at : get_or names member.0 0 ≡ name = get_or_default names member.0 0 name member.1 ∙ member.2 in
      elim (cases member.0 i) [
        | inl less ↦ let h = found.1 member.0 less in omega (arith, h, at)
        | inr le ↦ let h = found.2 member.0 le member.1 in omega (arith, h, at)
      ]

-- ---- what stands beside a name

-- each name is at one place
pub apart : (names : List ℕ) → IsStrictlyIncreasing names → AllPairs (λ a b. a ≢ b) names
apart names rising i j d less within same = let h = AllPairs-from_increasing names rising i j d less within in omega (arith, h, same)

pub apart-tail : (name : ℕ) (names : List ℕ) → AllPairs (λ a b. a ≢ b) (name ∷ names) → AllPairs (λ a b. a ≢ b) names
apart-tail name names apart i j d less within = apart (suc i) (suc j) d (omega arith) (omega arith)

pub apart-head : (name : ℕ) (names : List ℕ) → AllPairs (λ a b. a ≢ b) (name ∷ names) → Contains names name → ⊥
apart-head name names apart member = apart 0 (suc member.0) name (omega arith) (omega arith) (sym member.2)

pub found-unnamed : (names : List ℕ) (least : List (Option ℕ)) (v : ℕ) → (Contains names v → ⊥) → found_at names least v ≡ None
found-unnamed [] least v unnamed = refl
found-unnamed (name ∷ names) [] v unnamed = refl
found-unnamed (name ∷ names) (found ∷ least) v unnamed =
    rw (ne_eqb name v (λ same. unnamed (subst (Contains (name ∷ names)) same (Contains-head name names)))) (found-unnamed names least v (λ member. unnamed (Contains-tail name names v member)))

pub found-place : (names : List ℕ) (least : List (Option ℕ)) (place name : ℕ) → AllPairs (λ a b. a ≢ b) names → length least ≡ length names → slice_get names place ≡ Some name
    → found_at names least name ≡ get_or least place None
found-place [] least place name apart same at = absurd (none_some at) where
  none_some : None ≡ Some name → ⊥
  none_some e = cc
found-place (first ∷ names) [] place name apart same at = absurd (omega arith)
found-place (first ∷ names) (found ∷ least) zero name apart same at = let is : first ≡ name = cc in rw (eq-eqb first name is) refl
found-place (first ∷ names) (found ∷ least) (suc place) name apart same at =
    rw (ne_eqb first name (λ is. apart-head first names apart (subst (Contains names) (sym is) (place, slice_get_within names place name at, get_or_from_slice_get names place name name at))))
    (found-place names least place name (apart-tail first names apart) (omega arith) at)

pub found-set : (names : List ℕ) (least : List (Option ℕ)) (place name : ℕ) (new : Option ℕ) (v : ℕ) → AllPairs (λ a b. a ≢ b) names → length least ≡ length names → slice_get names place ≡ Some name
    → found_at names (set least place new) v ≡ cond (name == v) new (found_at names least v)
found-set [] least place name new v apart same at = absurd (none_some at) where
  none_some : None ≡ Some name → ⊥
  none_some e = cc
found-set (first ∷ names) [] place name new v apart same at = absurd (omega arith)
found-set (first ∷ names) (found ∷ least) zero name new v apart same at = let is : first ≡ name = cc in rw is (by_test (name == v)) where
  by_test : (t : Bool) → cond t new (found_at names least v) ≡ cond t new (cond t found (found_at names least v))
  by_test true = refl
  by_test false = refl
found-set (first ∷ names) (found ∷ least) (suc place) name new v apart same at =
    by_tests (first == v) (name == v) (eqb-true first v) (eqb-true name v) (found-set names least place name new v (apart-tail first names apart) (omega arith) at) where
      by_tests : (s t : Bool) → (s ≡ true → first ≡ v) → (t ≡ true → name ≡ v) → found_at names (set least place new) v ≡ cond t new (found_at names least v)
          → cond s found (found_at names (set least place new) v) ≡ cond t new (cond s found (found_at names least v))
      by_tests true true is is' rest = absurd (apart-head first names apart (subst (Contains names) (is' refl ∙ sym (is refl)) (place, slice_get_within names place name at, get_or_from_slice_get names place name name at)))
      by_tests true false is is' rest = refl
      by_tests false t is is' rest = rest
