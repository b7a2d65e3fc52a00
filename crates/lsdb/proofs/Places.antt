-- Places in edges that stand in order.
use Rattle.std.proofs.Common.{◌≡◌, ℕ, zero, suc, ◌<◌, ◌≤◌, Bool, true, false, ◌&&◌, ◌||◌, ◌==◌, nat_lt, ◌⊎◌, List, length, get_or, Contains, Some, None, sym, ap, subst, ◌∙◌, inl, inr, arith}
use Rattle.std.specs.List.{AllWithin}
use Rattle.std.specs.List.Sorted.{IsPartitionedBy}
use Rattle.std.proofs.lemmas.Bool.{false≢true}
use Rattle.std.proofs.lemmas.Bool.Decides.{nat_tests}
use Rattle.std.proofs.lemmas.List.{get_or_default}
use Rattle.rcp_base.specs.declared.names.Edge.{Edge}
use Rattle.rcp_model.specs.Edges.{is_edge_before}
use Rattle.rcp_model.proofs.GraphLemmas.{before-itself}
use Rattle.lsdb.specs.Links.{IsInOrder, least_between}
use Rattle.lsdb.proofs.LeastLinks.{edge_of, least-is, least-none}

abbrev lex_before : ℕ → ℕ → ℕ → ℕ → ℕ → ℕ → Bool
lex_before a b c d e f = nat_lt a d || a == d && (nat_lt b e || b == e && nat_lt c f)

not_before-chain : (a b c d e f g h i : ℕ) → lex_before d e f a b c ≡ false → lex_before g h i d e f ≡ false → lex_before g h i a b c ≡ false
not_before-chain a b c d e f g h i p q = grind (arith, nat_tests)

-- in a list in order no edge is before an earlier one
order_pairs : (edges : List Edge) → IsInOrder edges → (i j : ℕ) (d : Edge) → i ≤ j → j < length edges → is_edge_before (get_or edges j d) (get_or edges i d) ≡ false
order_pairs edges order i zero d le within = let same : i ≡ 0 = omega arith in subst (λ k. is_edge_before (get_or edges 0 d) (get_or edges k d) ≡ false) (sym same) (before-itself (get_or edges 0 d))
order_pairs edges order i (suc j) d le within = by_cases (cases i j le) (λ h. order_pairs edges order i j d h (omega arith)) where
  cases : (i j : ℕ) → i ≤ suc j → (i ≡ suc j) ⊎ (i ≤ j)
  cases i j le = grind arith

  by_cases : (i ≡ suc j) ⊎ (i ≤ j) → (i ≤ j → is_edge_before (get_or edges j d) (get_or edges i d) ≡ false) → is_edge_before (get_or edges (suc j) d) (get_or edges i d) ≡ false
  by_cases (inl same) rest = subst (λ k. is_edge_before (get_or edges (suc j) d) (get_or edges k d) ≡ false) (sym same) (before-itself (get_or edges (suc j) d))
  by_cases (inr earlier) rest =
      let a = get_or edges i d in
      let b = get_or edges j d in
      let e = get_or edges (suc j) d in
      let next : is_edge_before e b ≡ false = subst (λ k. is_edge_before (get_or edges k d) b ≡ false) (omega arith) (order j d (omega arith) (omega arith)) in
      not_before-chain a.from a.to a.cost b.from b.to b.cost e.from e.to e.cost (rest earlier) next

module _ (from to : ℕ) where
  -- whether an edge's routers come first
  abbrev pub is_pair_before : Edge → Bool
  is_pair_before edge = nat_lt edge.from from || edge.from == from && nat_lt edge.to to

  pair-back : (a b c d e f v w : ℕ) → lex_before d e f a b c ≡ false → (nat_lt d v || d == v && nat_lt e w) ≡ true → (nat_lt a v || a == v && nat_lt b w) ≡ true
  pair-back a b c d e f v w p q = grind (arith, nat_tests)

  pub pairs_partition : (edges : List Edge) → IsInOrder edges → IsPartitionedBy is_pair_before edges
  pairs_partition edges order i j d le within h =
      let a = get_or edges i d in
      let b = get_or edges j d in
      pair-back a.from a.to a.cost b.from b.to b.cost from to (order_pairs edges order i j d le within) h

  pair-itself : (v w : ℕ) → (nat_lt v v || v == v && nat_lt w w) ≡ false
  pair-itself v w = grind (arith, nat_tests)

  module _ (edges : List Edge) (order : IsInOrder edges) (place : ℕ) (below : AllWithin (λ edge. is_pair_before edge ≡ true) edges 0 place) (above : AllWithin (λ edge. is_pair_before edge ≡ false) edges place (length edges)) where
    -- an edge between the two routers stands at the place or after it
    not_below : (c : ℕ) (member : Contains edges (edge_of from to c)) → place ≤ member.0
    not_below c member = by_order (cases member.0 place) where
      cases : (k n : ℕ) → (k < n) ⊎ (n ≤ k)
      cases k n = grind arith

      by_order : (member.0 < place) ⊎ (place ≤ member.0) → place ≤ member.0
      by_order (inl less) = absurd (false≢true (sym (pair-itself from to) ∙ subst (λ e. is_pair_before e ≡ true) member.2 (below member.0 (edge_of from to c) (omega arith) less)))
      by_order (inr le) = le

    pub least-past : length edges ≤ place → None ≡ least_between from to edges
    least-past past = least-none from to edges (λ c member. let le = not_below c member in omega (arith, le, member.1))

    -- no edge after the place is before the one there
    behind : (c : ℕ) (member : Contains edges (edge_of from to c)) (d : Edge) → place < length edges → is_edge_before (edge_of from to c) (get_or edges place d) ≡ false
    behind c member d within =
        let at : get_or edges member.0 d ≡ edge_of from to c = get_or_default edges member.0 d (edge_of from to c) member.1 ∙ member.2 in
        subst (λ e. is_edge_before e (get_or edges place d) ≡ false) at (order_pairs edges order place member.0 d (not_below c member) member.1)

    cost-le : (v w a b c n : ℕ) → a ≡ v → b ≡ w → lex_before v w c a b n ≡ false → n ≤ c
    cost-le v w a b c n p q h = grind (arith, nat_tests)

    shown : (edge : Edge) → edge.from ≡ from → edge.to ≡ to → edge ≡ edge_of from to edge.cost
    shown edge first second = ap (λ n. edge_of n edge.to edge.cost) first ∙ ap (λ n. edge_of from n edge.cost) second

    pub least-at : (edge : Edge) → place < length edges → edge ≡ get_or edges place edge → edge.from ≡ from → edge.to ≡ to → Some edge.cost ≡ least_between from to edges
    least-at edge within is first second = least-is from to edges edge.cost (place, within, get_or_default edges place (edge_of from to edge.cost) edge within ∙ sym is ∙ shown edge first second) (λ c member.
        cost-le from to edge.from edge.to c edge.cost first second (subst (λ e. is_edge_before (edge_of from to c) e ≡ false) (sym is) (behind c member edge within)))

    other : (a b n v w c : ℕ) → (nat_lt a v || a == v && nat_lt b w) ≡ false → lex_before v w c a b n ≡ false → (a ≡ v) × (b ≡ w)
    other a b n v w c p q = grind (arith, nat_tests)

    pub least-not_at : (edge : Edge) → place < length edges → edge ≡ get_or edges place edge → ((edge.from ≡ from) → (edge.to ≡ to) → ⊥) → None ≡ least_between from to edges
    least-not_at edge within is differs = least-none from to edges (λ c member.
        let same = other edge.from edge.to edge.cost from to c (subst (λ e. is_pair_before e ≡ false) (sym is) (above place edge (omega arith) within))
        (subst (λ e. is_edge_before (edge_of from to c) e ≡ false) (sym is) (behind c member edge within)) in
        differs same.0 same.1)
