-- Rows: what a change of one edge does to the costs at the places of names.
use Rattle.std.proofs.Common.{◌≡◌, ℕ, ◌+◌, ◌<◌, ◌≤◌, Bool, true, false, cond, ◌==◌, ◌⊎◌, inl, inr, nat_cmp, min, List, [], ◌∷◌, length, get_or, slice_get, Contains, IsTrue, Option, Some, None, IfSome, IsSomeAnd, Result, Ok, Err, MatchResult, is_ok, refl, sym, ap, subst, ◌∙◌, arith}
use Rattle.std.specs.List.Sorted.{IsStrictlyIncreasing, IsBinarySearchResult}
use Rattle.std.proofs.lemmas.Bool.{false≢true}
use Rattle.std.proofs.lemmas.List.{get_or_default}
use Rattle.std.proofs.lemmas.List.Sorted.{searched}
use Rattle.std.proofs.lemmas.Option.{slice_get-get_or, slice_get_within, get_or_from_slice_get}
use Rattle.std.proofs.lemmas.List.Elements.{All-contains}
use Rattle.rcp_base.specs.declared.names.Edge.{Edge}
use Rattle.rcp_model.specs.Costs.{lesser, joined, cost}
use Rattle.rcp_model.specs.Graphs.{IsGraph}
use Rattle.cost_rows.specs.Search.{found_at, IsFound}
use Rattle.cost_rows.proofs.BoundLemmas.{cost_bound}
use Rattle.cost_rows.proofs.NameLemmas.{apart, found-place, found-unnamed, names_rise}
use Rattle.spf_incr.specs.declared.way.Hop.{Hop}
use Rattle.spf_incr.specs.declared.way.Way.{Way}
use Rattle.spf_incr.specs.declared.way.Way.TheVariants as way
use Rattle.spf_incr.specs.Changes.{IsWith, IsHop, IsTight, IsNotLower, IsStill, IsUntouched, IsWay, at_place, sum_over, lowered}
use Rattle.spf_incr.proofs.EdgeLemmas.{added_same, removed_same, added_cost}

-- ---- a row that a change doesn't touch

module _ (edges : List Edge) (names : List ℕ) (root : ℕ) (row : List (Option ℕ)) (edge : Edge) (hop : Hop) (rising : IsStrictlyIncreasing names) (is : IsHop names edge hop) (found : IsFound edges names root row) where
  at_beginning : at_place row hop.from ≡ cost edges root edge.from
  at_beginning = sym (found-place names row hop.from edge.from (apart names rising) found.places is.begins) ∙ found.exact edge.from

  at_end : at_place row hop.to ≡ cost edges root edge.to
  at_end = sym (found-place names row hop.to edge.to (apart names rising) found.places is.ends) ∙ found.exact edge.to

  loose_edge : (IsTight row hop → ⊥) → (n : ℕ) → cost edges root edge.from ≡ Some n → cost edges root edge.to ≡ Some (n + edge.cost) → ⊥
  loose_edge loose n from to = loose (n, at_beginning ∙ from, at_end ∙ to ∙ ap (λ c. Some (n + c)) (sym is.cost))

  no_lower_edge : IsNotLower row hop → (n : ℕ) → cost edges root edge.from ≡ Some n → IsSomeAnd (cost edges root edge.to) (λ m. m ≤ n + edge.cost)
  no_lower_edge higher n from =
      subst (λ c. IsSomeAnd (cost edges root edge.to) (λ m. m ≤ n + c)) is.cost (subst (λ o. IsSomeAnd o (λ m. m ≤ n + hop.cost)) at_end (higher n (at_beginning ∙ from)))

-- a row for which an edge that came or went is still
pub still_row : (before after : List Edge) (names : List ℕ) (root : ℕ) (edge : Edge) (hop : Hop) (row : List (Option ℕ)) → IsStrictlyIncreasing names → IsHop names edge hop → IsWith before edge after → IsFound before names root row → IsStill hop true row
    → IsFound after names root row
still_row before after names root edge hop row rising is with found still = record {
  places = found.places;
  exact = λ v. found.exact v ∙ sym (added_same before edge after with root (no_lower_edge before names root row edge hop rising is found still) v);
}

pub loose_row : (before after : List Edge) (names : List ℕ) (root : ℕ) (edge : Edge) (hop : Hop) (row : List (Option ℕ)) → IsStrictlyIncreasing names → IsHop names edge hop → IsWith after edge before → IsFound before names root row → IsStill hop false row
    → IsFound after names root row
loose_row before after names root edge hop row rising is with found loose = record {
  places = found.places;
  exact = λ v. found.exact v ∙ sym (removed_same after edge before with root (loose_edge before names root row edge hop rising is found loose) v);
}

pub untouched_row : (before after : List Edge) (names : List ℕ) (root : ℕ) (change : Way) (row : List (Option ℕ)) → IsStrictlyIncreasing names → IsWay before after names change → IsFound before names root row → IsUntouched change row
    → IsFound after names root row
untouched_row before after names root way.Anew row rising is found stays = absurd stays
untouched_row before after names root (way.Removed hop) row rising is found stays = loose_row before after names root is.0 hop row rising is.1 is.2 found stays
untouched_row before after names root (way.Added hop ends) row rising is found stays = still_row before after names root is.0 hop row rising is.1 is.2 found stays

-- ---- a row lowered by an edge that was added

nothing_over : (through : Option ℕ) → sum_over through None ≡ None
nothing_over None = refl
nothing_over (Some a) = refl

found-lowered : (names : List ℕ) (row ends : List (Option ℕ)) (through : Option ℕ) (v : ℕ) → length row ≡ length names → length ends ≡ length names
    → found_at names (lowered through row ends) v ≡ lesser (found_at names row v) (sum_over through (found_at names ends v))
found-lowered [] row ends through v same same' = sym (nothing_over through)
found-lowered (name ∷ names) [] ends through v same same' = absurd (omega arith)
found-lowered (name ∷ names) (r ∷ row) [] through v same same' = absurd (omega arith)
found-lowered (name ∷ names) (r ∷ row) (e ∷ ends) through v same same' = at_test (name == v) (found-lowered names row ends through v (omega arith) (omega arith)) where
  at_test : (t : Bool) → found_at names (lowered through row ends) v ≡ lesser (found_at names row v) (sum_over through (found_at names ends v))
      → cond t (lesser r (sum_over through e)) (found_at names (lowered through row ends) v) ≡ lesser (cond t r (found_at names row v)) (sum_over through (cond t e (found_at names ends v)))
  at_test true rest = refl
  at_test false rest = rest

length-lowered : (n : ℕ) (row ends : List (Option ℕ)) (through : Option ℕ) → length row ≡ n → length ends ≡ n → length (lowered through row ends) ≡ n
length-lowered n [] ends through same same' = same
length-lowered n (r ∷ row) [] through same same' = absurd (omega arith)
length-lowered n (r ∷ row) (e ∷ ends) through same same' = let rest = length-lowered (length row) row ends through refl (omega arith) in omega arith

cost_small : (edges : List Edge) → IsGraph edges → (u v : ℕ) → IfSome (cost edges u v) (λ n. n ≤ 200000000)
cost_small edges graph u v = at_cost (cost edges u v) refl where
  at_cost : (o : Option ℕ) → cost edges u v ≡ o → IfSome o (λ n. n ≤ 200000000)
  at_cost None is = tt
  at_cost (Some n) is =
      let bound = cost_bound edges u v n (λ edge member. All-contains (λ (edge : Edge). edge.cost ≤ 65535) edges edge graph.cheap member) is in
      let few = graph.few in
      omega arith

-- low sums stay below the largest number
sums_fit : (near : Option ℕ) (c : ℕ) (far : Option ℕ) → IfSome near (λ n. n ≤ 200000000) → c ≤ 65535 → IfSome far (λ n. n ≤ 200000000) → sum_over (sum_over near (Some c)) far ≡ joined (joined near (Some c)) far
sums_fit None c far low cheap low' = refl
sums_fit (Some a) c None low cheap low' = refl
sums_fit (Some a) c (Some b) low cheap low' = ap Some (fits a c b low cheap low') where
  fits : (a c b : ℕ) → a ≤ 200000000 → c ≤ 65535 → b ≤ 200000000 → min (min (a + c) 4294967295 + b) 4294967295 ≡ a + c + b
  fits a c b low cheap low' = omega arith

pub added_row : (before after : List Edge) (names : List ℕ) (root : ℕ) (hop : Hop) (row ends : List (Option ℕ)) → IsStrictlyIncreasing names → IsGraph before → IsGraph after
    → (edge : Edge) × IsHop names edge hop × IsWith before edge after × IsFound after names edge.to ends → IsFound before names root row
    → IsFound after names root (lowered (sum_over (at_place row hop.from) (Some hop.cost)) row ends)
added_row before after names root hop row ends rising graph graph' is found =
    let edge = is.0 in
    let near : at_place row hop.from ≡ cost before root edge.from = at_beginning before names root row edge hop rising is.1 found in
    let cheap = All-contains (λ (e : Edge). e.cost ≤ 65535) after edge graph'.cheap is.2.added in
    record {
      places = length-lowered (length names) row ends (sum_over (at_place row hop.from) (Some hop.cost)) found.places is.3.places;
      exact = λ v.
          found-lowered names row ends (sum_over (at_place row hop.from) (Some hop.cost)) v found.places is.3.places
          ∙ rw (near, is.1.cost, found.exact v, is.3.exact v)
          (ap (lesser (cost before root v)) (sums_fit (cost before root edge.from) edge.cost (cost after edge.to v) (cost_small before graph root edge.from) cheap (cost_small after graph' edge.to v))
          ∙ sym (added_cost before edge after is.2 root v));
    }

-- ---- a cost looked up

pub looked_up : (names : List ℕ) (row : List (Option ℕ)) (name : ℕ) (r : Result ℕ ℕ) → IsBinarySearchResult (λ y. nat_cmp y name) names r → IsStrictlyIncreasing names → length row ≡ length names
    → MatchResult r (λ place. (place < length row) × (found_at names row name ≡ get_or row place None)) (λ place. found_at names row name ≡ None)
looked_up names row name r position rising same = of_search r (searched names name r position (names_rise names rising)) where
  of_search : (r : Result ℕ ℕ) → MatchResult r (λ i. (i < length names) × (get_or names i 0 ≡ name)) (λ i. (i ≤ length names) × ((k : ℕ) → k < i → get_or names k 0 < name) × ((k : ℕ) → i ≤ k → k < length names → name < get_or names k 0))
      → MatchResult r (λ place. (place < length row) × (found_at names row name ≡ get_or row place None)) (λ place. found_at names row name ≡ None)
  of_search (Ok i) found = (let h = found.0 in omega arith, found-place names row i name (apart names rising) same (slice_get-get_or names i 0 found.0 ∙ ap Some found.1))
  of_search (Err i) found = found-unnamed names row name (λ member.
      let at : get_or names member.0 0 ≡ name = get_or_default names member.0 0 name member.1 ∙ member.2 in
      elim (order member.0 i) [
        | inl less ↦ let h = found.1 member.0 less in omega (arith, h, at)
        | inr le ↦ let h = found.2 member.0 le member.1 in omega (arith, h, at)
      ]) where
        order : (k i : ℕ) → (k < i) ⊎ (i ≤ k)
        order k i = grind arith

pub named_by : (names : List ℕ) (name : ℕ) (r : Result ℕ ℕ) → IsBinarySearchResult (λ y. nat_cmp y name) names r → IsStrictlyIncreasing names → IsTrue (is_ok r) → Contains names name
named_by names name r position rising ok = of_search r (searched names name r position (names_rise names rising)) ok where
  found_member : (names : List ℕ) (i name : ℕ) → slice_get names i ≡ Some name → Contains names name
  found_member names i name found = (i, slice_get_within names i name found, get_or_from_slice_get names i name name found)

  of_search : (r : Result ℕ ℕ) → MatchResult r (λ i. (i < length names) × (get_or names i 0 ≡ name)) (λ i. (i ≤ length names) × ((k : ℕ) → k < i → get_or names k 0 < name) × ((k : ℕ) → i ≤ k → k < length names → name < get_or names k 0))
      → IsTrue (is_ok r) → Contains names name
  of_search (Ok i) found ok = found_member names i name (slice_get-get_or names i 0 found.0 ∙ ap Some found.1)
  of_search (Err i) found ok = absurd (false≢true ok)
