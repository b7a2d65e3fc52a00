-- Ranks: the least cost from the first name over ranked edges is the place of the least router of a partition.
use Rattle.std.proofs.Common.{◌≡◌, ◌≢◌, ℕ, zero, suc, ◌+◌, ◌<◌, ◌≤◌, Bool, true, false, cond, ◌==◌, ◌⊎◌, ◌↔◌, List, [], ◌∷◌, ◌++◌, length, get_or, map, slice_get, Contains, AllPairs, IsTrue, Option, Some, None, refl, sym, ap, ap₂, subst, ◌∙◌, inl, inr, arith, eqb, eq-eqb, eqb-true}
use Rattle.std.specs.List.{find, dedup}
use Rattle.std.specs.List.Sorted.{IsStrictlyIncreasing, IsSorted}
use Rattle.std.specs.Ordering.{nat_cmp, is_lt}
use Rattle.std.proofs.lemmas.Bool.Decides.{nat_tests}
use Rattle.std.proofs.lemmas.Bool.{false≢true}
use Rattle.std.proofs.lemmas.Option.{same_Some, none-some, slice_get-get_or, slice_get_within, get_or_from_slice_get}
use Rattle.std.proofs.lemmas.List.Kept.{AllPairs-from_increasing, Contains-dedup_nat, Contains-from_dedup}
use Rattle.rcp_base.specs.Maps.{get_at}
use Rattle.rcp_base.specs.declared.names.Edge.{Edge}
use Rattle.rcp_model.specs.LinkState.{same_number}
use Rattle.rcp_model.specs.Costs.{Walk, stay, step, IsTwoWay, cost, is_reached}
use Rattle.rcp_model.specs.Edges.{is_edge_before}
use Rattle.rcp_model.specs.Graphs.{IsGraph, IsCostRow, routers_in}
use Rattle.rcp_model.proofs.MemberLemmas.{Contains-head, Contains-tail, Contains-cases, Contains-none}
use Rattle.rcp_model.proofs.GraphLemmas.{All-from_members, apart_within, routers_at, routers_within}
use Rattle.rcp_model.proofs.WalkLemmas.{Walk-then, Walk-edge, reached_is_walk}
use Rattle.cost_rows.proofs.BoundLemmas.{walk_of, least_of_walk}
use Rattle.cost_rows.proofs.EndLemmas.{map_member, member_of_map}
use Rattle.replica_law.specs.Steps.{IsBeginning, IsLeastIn, AreSpokes}
use Rattle.replica_law.specs.Ranks.{free, IsShortcut, IsFreed, AreRanked, IsRank, AreRanks}
use Rattle.replica_law.proofs.ListLemmas.{find_none, find_least, not_falling, past}
use Rattle.replica_law.proofs.PartitionLemmas.{reached-self, reached-back, reached-then, begins_or_self, begins-reached, least-unique, least-shift, least-alone, pairs-map}

-- ---- pairs by router

pub member_of_row : (row : List (ℕ × ℕ)) (u n : ℕ) → get_at same_number u row ≡ Some n → Contains row (u, n)
member_of_row [] u n is = absurd (none-some _ is)
member_of_row (entry ∷ row) u n is = at_test (eqb u entry.0) (eqb-true u entry.0) (λ some. member_of_row row u n some) is where
  at_test : (t : Bool) → (t ≡ true → u ≡ entry.0) → (get_at same_number u row ≡ Some n → Contains row (u, n)) → cond t (Some entry.1) (get_at same_number u row) ≡ Some n → Contains (entry ∷ row) (u, n)
  at_test true same rest is =
      let made : ℕ → ℕ → ℕ × ℕ = λ a b. (a, b) in
      let pair : entry ≡ (u, n) = ap₂ made (sym (same refl)) (same_Some _ _ is) in
      subst (λ (e : ℕ × ℕ). Contains (entry ∷ row) e) pair (Contains-head entry row)
  at_test false other rest is = Contains-tail entry row (u, n) (rest is)

pub row_of_member : (row : List (ℕ × ℕ)) (u n : ℕ) → AllPairs (λ (a b : ℕ × ℕ). a.0 < b.0) row → Contains row (u, n) → get_at same_number u row ≡ Some n
row_of_member [] u n rising member = absurd (Contains-none (u, n) member)
row_of_member (entry ∷ row) u n rising member = elim (Contains-cases entry row (u, n) member) [
  | inl same ↦ rw (eq-eqb u entry.0 (ap (λ (e : ℕ × ℕ). e.0) (sym same))) (ap (λ (e : ℕ × ℕ). Some e.1) same)
  | inr later ↦
      let below : entry.0 < u = subst (λ (e : ℕ × ℕ). entry.0 < e.0) later.2 (rising 0 (suc later.0) (u, n) (omega arith) (omega (arith, later.1))) in
      at_test (eqb u entry.0) (eqb-true u entry.0) below (row_of_member row u n (λ i j d less within. rising (suc i) (suc j) d (omega (arith, less)) (omega (arith, within))) later)
] where
  at_test : (t : Bool) → (t ≡ true → u ≡ entry.0) → entry.0 < u → get_at same_number u row ≡ Some n → cond t (Some entry.1) (get_at same_number u row) ≡ Some n
  at_test true same below rest = absurd (omega (arith, same refl, below))
  at_test false other below rest = rest

-- ---- ranks

place_le : (names : List ℕ) → IsStrictlyIncreasing names → (i j x y : ℕ) → slice_get names i ≡ Some x → slice_get names j ≡ Some y → x ≤ y → i ≤ j
place_le names rising i j x y at_i at_j low = elim (order j i) [
  | inl less ↦
      let within = slice_get_within names i x at_i in
      let below = AllPairs-from_increasing names rising j i 0 less within in
      let first = get_or_from_slice_get names i x 0 at_i in
      let second = get_or_from_slice_get names j y 0 at_j in
      absurd (omega (arith, below, first, second, low))
  | inr most ↦ most
] where
  order : (m n : ℕ) → (m < n) ⊎ (n ≤ m)
  order m n = grind arith

module _ (edges : List Edge) (both : IsTwoWay edges) (names : List ℕ) (rising : IsStrictlyIncreasing names) (exact : (u : ℕ) → Contains names u ↔ IsBeginning edges u) where
  place_of : (u : ℕ) → Contains names u → (k : ℕ) × (slice_get names k ≡ Some u)
  place_of u member = (member.0, slice_get-get_or names member.0 u member.1 ∙ ap Some member.2)

  name_at : (k u : ℕ) → slice_get names k ≡ Some u → Contains names u
  name_at k u at = (k, slice_get_within names k u at, get_or_from_slice_get names k u u at)

  -- each router at which an edge begins has a rank
  rank_there : (u : ℕ) → IsBeginning edges u → (rank : ℕ) × IsRank edges names u rank
  rank_there u begins = by_first (find (is_reached edges u) names) refl where
    by_first : (o : Option ℕ) → find (is_reached edges u) names ≡ o → (rank : ℕ) × IsRank edges names u rank
    by_first None none = absurd (false≢true (sym (find_none (is_reached edges u) names none u ((exact u).1 begins)) ∙ reached-self edges u))
    by_first (Some l) some =
        let least = find_least (is_reached edges u) names l (not_falling names rising) some in
        let place = place_of l least.member in (
          place.0,
          record {
            least = l;
            place = place.1;
            is_least = record {
              inside = least.passes;
              none_lower = λ v reached. lowest v l least.lower_fail reached;
            };
          },
        ) where
          lowest : (v l : ℕ) → ((y : ℕ) → Contains names y → y < l → is_reached edges u y ≡ false) → is_reached edges u v ≡ true → l ≤ v
          lowest v l fails reached = elim (order v l) [
            | inl less ↦ absurd (false≢true (sym (fails v ((exact v).1 (begins-reached edges both u v begins reached)) less) ∙ reached))
            | inr most ↦ most
          ] where
            order : (m n : ℕ) → (m < n) ⊎ (n ≤ m)
            order m n = grind arith

  rank-unique : (u m n : ℕ) → IsRank edges names u m → IsRank edges names u n → m ≡ n
  rank-unique u m n first second =
      let same = least-unique edges u first.least second.least first.is_least second.is_least in
      let a = place_le names rising m n first.least second.least first.place second.place (omega (arith, same)) in
      let b = place_le names rising n m second.least first.least second.place first.place (omega (arith, same)) in
      omega (arith, a, b)

  rank-shift : (u v r : ℕ) → is_reached edges u v ≡ true → IsRank edges names u r → IsRank edges names v r
  rank-shift u v r reached rank = record { least = rank.least; place = rank.place; is_least = least-shift edges both u v rank.least reached rank.is_least }

  -- ---- the costs over the ranked edges

  module _ (root : ℕ) (first : slice_get names 0 ≡ Some root) (found : List Edge) (are : AreRanked edges names root found) where
    -- what an edge does to a rank
    edge_rank : (edge : Edge) → IsFreed edges edge ⊎ IsShortcut names root edge → (r : ℕ) → IsRank edges names edge.from r → (s : ℕ) × IsRank edges names edge.to s × (s ≤ edge.cost + r)
    edge_rank edge (inl freed) r rank =
        let from : edge.from ≡ freed.0.from = ap (λ (e : Edge). e.from) freed.2 in
        let to : edge.to ≡ freed.0.to = ap (λ (e : Edge). e.to) freed.2 in
        let reached : is_reached edges edge.from edge.to ≡ true =
        (reached_is_walk edges edge.from edge.to).1 (freed.0.cost, subst (λ u. Walk edges u edge.to freed.0.cost) (sym from) (subst (λ v. Walk edges freed.0.from v freed.0.cost) (sym to) (Walk-edge edges freed.0 freed.1))) in
        (r, rank-shift edge.from edge.to r reached rank, omega arith)
    edge_rank edge (inr shortcut) r rank =
        let own = rank_there edge.to ((exact edge.to).0 (name_at edge.cost edge.to shortcut.1)) in
        let low = place_le names rising own.0 edge.cost own.1.least edge.to own.1.place shortcut.1 (own.1.is_least.none_lower edge.to (reached-self edges edge.to)) in
        (own.0, own.1, omega (arith, low))

    -- a walk costs at least by how much the rank rises
    walk_rank : {v u sum : ℕ} → Walk found v u sum → (r s : ℕ) → IsRank edges names v r → IsRank edges names u s → s ≤ sum + r
    walk_rank (stay v) r s here there = omega (arith, rank-unique v r s here there)
    walk_rank (step edge u sum member rest) r s here there =
        let next = edge_rank edge ((are edge).0 member) r here in
        let onward = walk_rank rest next.0 s next.1 there in
        omega (arith, next.2, onward)

    free_walk : {u v sum : ℕ} → Walk edges u v sum → Walk found u v 0
    free_walk (stay u) = stay u
    free_walk (step edge v sum member rest) =
        let onward = free_walk rest in
        let zero_sum : 0 + 0 ≡ 0 = refl in
        subst (λ n. Walk found edge.from v n) zero_sum (step (free edge) v 0 ((are (free edge)).1 (inl (edge, member, refl))) onward)

    rank_walk : (u r : ℕ) → IsRank edges names u r → Walk found root u r
    rank_walk u r rank =
        let edge : Edge = record { from = root; to = rank.least; cost = r } in
        let back = (reached_is_walk edges rank.least u).0 (reached-back edges both u rank.least rank.is_least.inside) in
        subst (Walk found root u) (omega arith) (Walk-then (Walk-edge found edge ((are edge).1 (inr (refl, rank.place)))) (free_walk back.1))

    root_begins : IsBeginning edges root
    root_begins = (exact root).0 (name_at 0 root first)

    root_rank : IsRank edges names root 0
    root_rank =
        let own = rank_there root root_begins in
        let low = place_le names rising own.0 0 own.1.least root own.1.place first (own.1.is_least.none_lower root (reached-self edges root)) in
        subst (IsRank edges names root) (omega (arith, low)) own.1

    -- the cost is the rank
    pub cost_rank : (u r : ℕ) → IsRank edges names u r → cost found root u ≡ Some r
    cost_rank u r rank =
        let least = least_of_walk found root u r (rank_walk u r rank) in
        let low = walk_rank (walk_of found root u least.0 least.1) 0 r root_rank rank in
        least.1 ∙ ap Some (omega (arith, least.2, low))

    walk_begins : {u v sum : ℕ} → IsBeginning edges u → Walk found u v sum → IsBeginning edges v
    walk_begins begins (stay u) = begins
    walk_begins begins (step edge v sum member rest) = walk_begins (end_begins edge ((are edge).0 member)) rest where
      end_begins : (edge : Edge) → IsFreed edges edge ⊎ IsShortcut names root edge → IsBeginning edges edge.to
      end_begins edge (inl freed) =
          let to : edge.to ≡ freed.0.to = ap (λ (e : Edge). e.to) freed.2 in
          let back = both freed.0 freed.1 in
          (back.0, back.1, back.2 ∙ sym to)
      end_begins edge (inr shortcut) = (exact edge.to).0 (name_at edge.cost edge.to shortcut.1)

    pub ranks_are : (row : List (ℕ × ℕ)) → IsCostRow found root row → AreRanks edges names row
    ranks_are row is = record {
      right = λ u n member.
          let costs = sym (is.exact u) ∙ row_of_member row u n is.rising member in
          let begins = walk_begins root_begins (walk_of found root u n costs) in
          let rank = rank_there u begins in
          (begins, subst (IsRank edges names u) (same_Some _ _ (sym (cost_rank u rank.0 rank.1) ∙ costs)) rank.1);
      each = λ u begins.
          let rank = rank_there u begins in
          (rank.0, member_of_row row u rank.0 (is.exact u ∙ cost_rank u rank.0 rank.1));
    }

    -- ---- the ranked edges are those of a graph

    pub ranked_graph : length names ≤ 2560 → AllPairs (λ a b. IsTrue (is_edge_before a b)) found → IsGraph found
    ranked_graph low in_order = record {
      rising = in_order;
      few = let within = routers_within found names ends in omega (arith, within, low);
      cheap = All-from_members (λ (edge : Edge). edge.cost ≤ 65535) found (λ edge member. cheap edge ((are edge).0 member));
    } where
      ends : (edge : Edge) → Contains found edge → Contains names edge.from × Contains names edge.to
      ends edge member = at ((are edge).0 member) where
        at : IsFreed edges edge ⊎ IsShortcut names root edge → Contains names edge.from × Contains names edge.to
        at (inl freed) =
            let from : edge.from ≡ freed.0.from = ap (λ (e : Edge). e.from) freed.2 in
            let to : edge.to ≡ freed.0.to = ap (λ (e : Edge). e.to) freed.2 in
            let back = both freed.0 freed.1 in
            ((exact edge.from).1 (freed.0, freed.1, sym from), (exact edge.to).1 (back.0, back.1, back.2 ∙ sym to))
        at (inr shortcut) = (subst (Contains names) (sym shortcut.0) (name_at 0 root first), name_at edge.cost edge.to shortcut.1)

      cheap : (edge : Edge) → IsFreed edges edge ⊎ IsShortcut names root edge → edge.cost ≤ 65535
      cheap edge (inl freed) = let none : edge.cost ≡ 0 = ap (λ (e : Edge). e.cost) freed.2 in omega (arith, none)
      cheap edge (inr shortcut) = let within = slice_get_within names edge.cost edge.to shortcut.1 in omega (arith, within, low)

-- ---- names

pub names_few : (edges : List Edge) (names : List ℕ) → IsGraph edges → IsStrictlyIncreasing names → ((u : ℕ) → Contains names u ↔ IsBeginning edges u) → length names ≤ 2560
names_few edges names graph rising exact =
    let within = apart_within names (routers_in edges) (apart names rising) (λ n member. let begins = (exact n).0 member in subst (Contains (routers_in edges)) begins.2 (routers_at edges begins.0 begins.1).0) in
    omega (arith, within, graph.few) where
      apart : (names : List ℕ) → IsStrictlyIncreasing names → AllPairs (λ a b. a ≢ b) names
      apart names rising i j d less within same = let below = AllPairs-from_increasing names rising i j d less within in omega (arith, below, same)

-- without a name there is no rank
pub ranks_none : (edges : List Edge) (names : List ℕ) (ranks : List (ℕ × ℕ)) → ((u : ℕ) → Contains names u ↔ IsBeginning edges u) → None ≡ slice_get names 0 → ranks ≡ [] → AreRanks edges names ranks
ranks_none edges names ranks exact none empty = record {
  right = λ u n member. absurd (Contains-none (u, n) (subst (λ (l : List (ℕ × ℕ)). Contains l (u, n)) empty member));
  each = λ u begins. let member = (exact u).1 begins in let all = past names 0 none in absurd (omega (arith, member.1, all));
}

-- the same edges in order
pub ranked_sorted : (edges : List Edge) (names : List ℕ) (root : ℕ) (xs ys : List Edge) → AreRanked edges names root xs → ((e : Edge) → Contains xs e → Contains ys e) → ((e : Edge) → Contains ys e → Contains xs e)
    → AreRanked edges names root ys
ranked_sorted edges names root xs ys are kept no_other edge = (λ member. (are edge).0 (no_other edge member), λ cases. kept edge ((are edge).1 cases))

pub spokes_sorted : (edges xs ys : List Edge) → AreSpokes edges xs → ((e : Edge) → Contains xs e → Contains ys e) → ((e : Edge) → Contains ys e → Contains xs e) → AreSpokes edges ys
spokes_sorted edges xs ys are kept no_other edge = (λ member. (are edge).0 (no_other edge member), λ is. kept edge ((are edge).1 is))

-- the names are the beginnings of sorted edges, each once
pub starts_sorted : (edges : List Edge) → AllPairs (λ a b. IsTrue (is_edge_before a b)) edges → IsSorted nat_cmp (map (λ (edge : Edge). edge.from) edges)
starts_sorted edges rising k d low high = not_lower (get_or (map (λ (edge : Edge). edge.from) edges) k d) (get_or (map (λ (edge : Edge). edge.from) edges) (k + 1) d) (starts-rise k (k + 1) d (omega arith) (omega (arith, high))) where
  starts-rise : AllPairs (λ m n. m ≤ n) (map (λ (edge : Edge). edge.from) edges)
  starts-rise = pairs-map (λ m n. m ≤ n) (λ (edge : Edge). edge.from) edges (λ i j d less within. from_low (get_or edges i d) (get_or edges j d) (rising i j d less within)) where
    from_low : (a b : Edge) → is_edge_before a b ≡ true → a.from ≤ b.from
    from_low a b before = numbers a.from a.to a.cost b.from b.to b.cost before where
      numbers : (f t c g u d : ℕ) → is_edge_before (record { from = f; to = t; cost = c }) (record { from = g; to = u; cost = d }) ≡ true → f ≤ g
      numbers f t c g u d before = grind (arith, nat_tests)

  not_lower : (m n : ℕ) → m ≤ n → is_lt (nat_cmp n m) ≡ false
  not_lower m n low = grind (arith, nat_tests)

pub starts_exact : (edges : List Edge) (names : List ℕ) → names ≡ dedup eqb (map (λ (edge : Edge). edge.from) edges) → (u : ℕ) → Contains names u ↔ IsBeginning edges u
starts_exact edges names is u = (
  λ member.
      let listed = Contains-from_dedup eqb (map (λ (edge : Edge). edge.from) edges) u (subst (λ (l : List ℕ). Contains l u) is member) in
      let from = member_of_map (λ (edge : Edge). edge.from) edges u listed in
      (from.0, from.1, from.2),
  λ begins.
      subst (λ (l : List ℕ). Contains l u) (sym is) (Contains-dedup_nat (map (λ (edge : Edge). edge.from) edges) u (subst (Contains (map (λ (edge : Edge). edge.from) edges)) begins.2 (map_member (λ (edge : Edge). edge.from) edges begins.0 begins.1))),
)

-- ---- loops

-- a list with one item more
pub more_cases : {X : Type 0} (xs : List X) (x y : X) → Contains (xs ++ x ∷ []) y → Contains xs y ⊎ (x ≡ y)
more_cases [] x y member = elim (Contains-cases x [] y member) [ inl same ↦ inr same | inr none ↦ absurd (Contains-none y none) ]
more_cases (z ∷ xs) x y member = elim (Contains-cases z (xs ++ x ∷ []) y member) [
  | inl same ↦ inl (subst (Contains (z ∷ xs)) same (Contains-head z xs))
  | inr later ↦ elim (more_cases xs x y later) [ inl here ↦ inl (Contains-tail z xs y here) | inr last ↦ inr last ]
]

pub more_before : {X : Type 0} (xs : List X) (x y : X) → Contains xs y → Contains (xs ++ x ∷ []) y
more_before [] x y member = absurd (Contains-none y member)
more_before (z ∷ xs) x y member = elim (Contains-cases z xs y member) [
  | inl same ↦ subst (Contains (z ∷ (xs ++ x ∷ []))) same (Contains-head z (xs ++ x ∷ []))
  | inr later ↦ Contains-tail z (xs ++ x ∷ []) y (more_before xs x y later)
]

pub more_last : {X : Type 0} (xs : List X) (x : X) → Contains (xs ++ x ∷ []) x
more_last [] x = Contains-head x []
more_last (z ∷ xs) x = Contains-tail z (xs ++ x ∷ []) x (more_last xs x)

edge_is : (e : Edge) (f t c : ℕ) → e.from ≡ f → e.to ≡ t → e.cost ≡ c → record { from = f; to = t; cost = c } ≡ e
edge_is e f t c from to costs =
    let made : ℕ → ℕ → ℕ → Edge = λ x y z. record { from = x; to = y; cost = z } in
    sym (ap (λ (x : ℕ). made x e.to e.cost) from ∙ ap (λ (y : ℕ). made f y e.cost) to ∙ ap (λ (z : ℕ). made f t z) costs)

-- the edges at no cost, and the shortcuts to the names below a place
abbrev pub AreRankedTo : List Edge → List ℕ → ℕ → ℕ → List Edge → Type 0
AreRankedTo edges names root n items = (edge : Edge) → Contains items edge ↔ (IsFreed edges edge ⊎ (IsShortcut names root edge × (edge.cost < n)))

pub ranked_none : (edges : List Edge) (names : List ℕ) (root : ℕ) (items : List Edge) → items ≡ map free edges → AreRankedTo edges names root 0 items
ranked_none edges names root items is edge = (
  λ member.
      let found = member_of_map free edges edge (subst (λ (l : List Edge). Contains l edge) is member) in
      inl (found.0, found.1, sym found.2),
  λ cases. elim cases [
    | inl freed ↦ subst (λ (l : List Edge). Contains l edge) (sym is) (subst (Contains (map free edges)) (sym freed.2) (map_member free edges freed.0 freed.1))
    | inr shortcut ↦ absurd (omega (arith, shortcut.1))
  ],
)

pub ranked_more : (edges : List Edge) (names : List ℕ) (root n x : ℕ) (items more : List Edge) → AreRankedTo edges names root n items → slice_get names n ≡ Some x
    → more ≡ items ++ record { from = root; to = x; cost = n } ∷ [] → AreRankedTo edges names root (n + 1) more
ranked_more edges names root n x items more before at is edge = (
  λ member. elim (more_cases items added edge (subst (λ (l : List Edge). Contains l edge) is member)) [
    | inl earlier ↦ elim ((before edge).0 earlier) [ inl freed ↦ inl freed | inr shortcut ↦ inr (shortcut.0, omega (arith, shortcut.1)) ]
    | inr last ↦ inr (subst (λ (e : Edge). IsShortcut names root e × (e.cost < n + 1)) last ((refl, at), omega arith))
  ],
  λ cases. subst (λ (l : List Edge). Contains l edge) (sym is) (elim cases [
    | inl freed ↦ more_before items added edge ((before edge).1 (inl freed))
    | inr shortcut ↦ elim (last_or edge.cost shortcut.1) [
      | inl earlier ↦ more_before items added edge ((before edge).1 (inr (shortcut.0, earlier)))
      | inr same ↦ subst (Contains (items ++ added ∷ [])) (same_edge_as shortcut.0 same) (more_last items added)
    ]
  ]),
) where
  added : Edge
  added = record { from = root; to = x; cost = n }

  last_or : (k : ℕ) → k < n + 1 → (k < n) ⊎ (k ≡ n)
  last_or k less = grind arith

  same_edge_as : IsShortcut names root edge → edge.cost ≡ n → record { from = root; to = x; cost = n } ≡ edge
  same_edge_as shortcut same = edge_is edge root x n shortcut.0 (same_Some _ _ (sym shortcut.1 ∙ ap (slice_get names) same ∙ at)) same

pub ranked_all : (edges : List Edge) (names : List ℕ) (root n : ℕ) (items : List Edge) → AreRankedTo edges names root n items → length names ≤ n → AreRanked edges names root items
ranked_all edges names root n items before all edge = (
  λ member. elim ((before edge).0 member) [ inl freed ↦ inl freed | inr shortcut ↦ inr shortcut.0 ],
  λ cases. elim cases [
    | inl freed ↦ (before edge).1 (inl freed)
    | inr shortcut ↦ let within = slice_get_within names edge.cost edge.to shortcut.1 in (before edge).1 (inr (shortcut, omega (arith, within, all)))
  ],
)

-- the edge of a router and its rank
abbrev pub IsSpoke : List ℕ → ℕ × ℕ → Edge → Type 0
IsSpoke names pair edge = (slice_get names pair.1 ≡ Some edge.from) × (edge.to ≡ pair.0) × (edge.cost ≡ 0)

abbrev pub AreSpokesTo : List ℕ → List (ℕ × ℕ) → List Edge → Type 0
AreSpokesTo names pairs items = (edge : Edge) → Contains items edge ↔ ((pair : ℕ × ℕ) × Contains pairs pair × IsSpoke names pair edge)

pub spokes_none : (names : List ℕ) (pairs : List (ℕ × ℕ)) (items : List Edge) → pairs ≡ [] → items ≡ [] → AreSpokesTo names pairs items
spokes_none names pairs items no_pairs none edge = (
  λ member. absurd (Contains-none edge (subst (λ (l : List Edge). Contains l edge) none member)),
  λ from. absurd (Contains-none from.0 (subst (λ (l : List (ℕ × ℕ)). Contains l from.0) no_pairs from.1)),
)

pub spokes_more : (names : List ℕ) (pairs pairs_more : List (ℕ × ℕ)) (pair : ℕ × ℕ) (l : ℕ) (items more : List Edge) → AreSpokesTo names pairs items → slice_get names pair.1 ≡ Some l
    → pairs_more ≡ pairs ++ pair ∷ [] → more ≡ items ++ record { from = l; to = pair.0; cost = 0 } ∷ [] → AreSpokesTo names pairs_more more
spokes_more names pairs pairs_more pair l items more before at pairs_are is edge = (
  λ member. elim (more_cases items added edge (subst (λ (l : List Edge). Contains l edge) is member)) [
    | inl earlier ↦ let from = (before edge).0 earlier in (from.0, subst (λ (l : List (ℕ × ℕ)). Contains l from.0) (sym pairs_are) (more_before pairs pair from.0 from.1), from.2)
    | inr last ↦ (pair, subst (λ (l : List (ℕ × ℕ)). Contains l pair) (sym pairs_are) (more_last pairs pair), subst (IsSpoke names pair) last (at, refl, refl))
  ],
  λ from. subst (λ (l : List Edge). Contains l edge) (sym is) (elim (more_cases pairs pair from.0 (subst (λ (l : List (ℕ × ℕ)). Contains l from.0) pairs_are from.1)) [
    | inl earlier ↦ more_before items added edge ((before edge).1 (from.0, earlier, from.2))
    | inr last ↦ subst (Contains (items ++ added ∷ [])) (is_added (subst (λ (p : ℕ × ℕ). IsSpoke names p edge) (sym last) from.2)) (more_last items added)
  ]),
) where
  added : Edge
  added = record { from = l; to = pair.0; cost = 0 }

  is_added : IsSpoke names pair edge → record { from = l; to = pair.0; cost = 0 } ≡ edge
  is_added spoke = edge_is edge l pair.0 0 (same_Some _ _ (sym spoke.0 ∙ at)) spoke.1 spoke.2

pub spokes_all : (edges : List Edge) (names : List ℕ) (ranks : List (ℕ × ℕ)) (items : List Edge) → AreRanks edges names ranks → AreSpokesTo names ranks items → AreSpokes edges items
spokes_all edges names ranks items are before edge = (
  λ member.
      let from = (before edge).0 member in
      let right = are.right from.0.0 from.0.1 from.1 in
      let least : right.1.least ≡ edge.from = same_Some _ _ (sym right.1.place ∙ from.2.0) in (
        subst (IsBeginning edges) (sym from.2.1) right.0,
        subst (λ u. IsLeastIn edges u edge.from) (sym from.2.1) (subst (IsLeastIn edges from.0.0) least right.1.is_least),
        from.2.2,
      ),
  λ is.
      let rank = are.each edge.to is.0 in
      let right = are.right edge.to rank.0 rank.1 in
      let least : right.1.least ≡ edge.from = least-unique edges edge.to right.1.least edge.from right.1.is_least is.1 in
      (before edge).1 ((edge.to, rank.0), rank.1, (right.1.place ∙ ap Some least, refl, is.2)),
)

-- the spokes are the edges of a graph
pub spokes_graph : (edges spokes : List Edge) → IsGraph edges → IsTwoWay edges → AreSpokes edges spokes → AllPairs (λ a b. IsTrue (is_edge_before a b)) spokes → IsGraph spokes
spokes_graph edges spokes graph both are in_order = record {
  rising = in_order;
  few = let within = routers_within spokes (routers_in edges) ends in omega (arith, within, graph.few);
  cheap = All-from_members (λ (edge : Edge). edge.cost ≤ 65535) spokes (λ edge member. let none = ((are edge).0 member).2 in omega (arith, none));
} where
  named : (u : ℕ) → IsBeginning edges u → Contains (routers_in edges) u
  named u begins = subst (Contains (routers_in edges)) begins.2 (routers_at edges begins.0 begins.1).0

  ends : (edge : Edge) → Contains spokes edge → Contains (routers_in edges) edge.from × Contains (routers_in edges) edge.to
  ends edge member =
      let is = (are edge).0 member in
      (named edge.from (begins-reached edges both edge.to edge.from is.0 is.1.inside), named edge.to is.0)

-- a rank is the place of a name
pub rank_within : (edges : List Edge) (names : List ℕ) (ranks : List (ℕ × ℕ)) (k : ℕ) (pair : ℕ × ℕ) → AreRanks edges names ranks → k < length ranks → pair ≡ get_or ranks k pair → pair.1 < length names
rank_within edges names ranks k pair are within is =
    let right = are.right pair.0 pair.1 (k, within, sym is) in
    slice_get_within names pair.1 right.1.least right.1.place

-- the least router that is looked up
pub least_found : (edges : List Edge) (names : List ℕ) (ranks : List (ℕ × ℕ)) (u rank l : ℕ) → AreRanks edges names ranks → get_at same_number u ranks ≡ Some rank → l ≡ get_or names rank l → IsLeastIn edges u l
least_found edges names ranks u rank l are found is =
    let right = are.right u rank (member_of_row ranks u rank found) in
    let same : right.1.least ≡ l = sym (get_or_from_slice_get names rank right.1.least l right.1.place) ∙ sym is in
    subst (IsLeastIn edges u) same right.1.is_least

pub rank_found : (edges : List Edge) (names : List ℕ) (ranks : List (ℕ × ℕ)) (u rank : ℕ) → AreRanks edges names ranks → get_at same_number u ranks ≡ Some rank → rank < length names
rank_found edges names ranks u rank are found =
    let right = are.right u rank (member_of_row ranks u rank found) in
    slice_get_within names rank right.1.least right.1.place

pub least_none : (edges : List Edge) (names : List ℕ) (ranks : List (ℕ × ℕ)) (u : ℕ) → AreRanks edges names ranks → AllPairs (λ (a b : ℕ × ℕ). a.0 < b.0) ranks → get_at same_number u ranks ≡ None → IsLeastIn edges u u
least_none edges names ranks u are rising none =
    least-alone edges u (λ begins. let rank = are.each u begins in none-some _ (sym none ∙ row_of_member ranks u rank.0 rising rank.1))
