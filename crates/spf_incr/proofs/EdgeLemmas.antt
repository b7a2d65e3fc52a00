-- One edge more or less: what it changes of the least costs from a router.
use Rattle.std.proofs.Common.{◌≡◌, ℕ, Bool, true, false, not, ◌+◌, ◌≤◌, ◌⊎◌, min, List, Contains, IsTrue, Option, Some, None, IfSome, IsSomeAnd, refl, sym, ap, subst, ◌∙◌, inl, inr, arith, zero-add}
use Rattle.std.proofs.lemmas.List.Kept.{AllPairs-filter}
use Rattle.rcp_model.proofs.WalkLemmas.{Walk-then, Walk-edge, IsCost-unique, IsCost-from_settled, cost_is, cost-itself}
use Rattle.rcp_model.proofs.MemberLemmas.{filter_member, member_of_filter}
use Rattle.rcp_model.proofs.GraphLemmas.{same-edge, same-itself, include-member, member_of_include, rising-include, rising-same, graph-exclude}
use Rattle.rcp_base.specs.declared.names.Edge.{Edge}
use Rattle.rcp_model.specs.Edges.{same_edge, is_edge_before, include_edge}
use Rattle.rcp_model.specs.Graphs.{IsGraph, exclude_edge}
use Rattle.rcp_model.specs.Costs.{Walk, stay, step, IsCost, lesser, joined, cost}
use Rattle.std.proofs.lemmas.Bool.{false≢true}
use Rattle.cost_rows.specs.Engines.{graph_before}
use Rattle.cost_rows.proofs.BoundLemmas.{walk_of, least_of_walk}
use Rattle.spf_incr.specs.Changes.{IsWith}

walk_among : {edges others : List Edge} {u v sum : ℕ} → ((edge : Edge) → Contains edges edge → Contains others edge) → Walk edges u v sum → Walk others u v sum
walk_among inside (stay u) = stay u
walk_among inside (step edge v sum member walk) = step edge v sum (inside edge member) (walk_among inside walk)

within_some : (o : Option ℕ) (n c : ℕ) → o ≡ Some n → n ≤ c → IsSomeAnd o (λ m. m ≤ c)
within_some o n c is le = subst (λ o. IsSomeAnd o (λ m. m ≤ c)) (sym is) le

clash : (o : Option ℕ) (n : ℕ) → o ≡ None → o ≡ Some n → ⊥
clash o n h k = cc

same_some : (m n : ℕ) (o : Option ℕ) → o ≡ Some m → o ≡ Some n → m ≡ n
same_some m n o h k = cc

module _ (edges : List Edge) (edge : Edge) (more : List Edge) (with : IsWith edges edge more) where
  -- a walk over the edge, cut at its first use
  record Over (u v sum : ℕ) : Type 0 where
    a : ℕ
    b : ℕ
    before : Walk edges u edge.from a
    after : Walk more edge.to v b
    total : a + (edge.cost + b) ≡ sum

  split : {u v sum : ℕ} → Walk more u v sum → Walk edges u v sum ⊎ Over u v sum
  split (stay u) = inl (stay u)
  split (step e v sum member rest) = elim (with.no_other e member) [
    | inl same ↦ inr (subst (λ (x : Edge). Over x.from v (x.cost + sum)) same
        (record { a = 0; b = sum; before = stay edge.from; after = subst (λ (x : Edge). Walk more x.to v sum) (sym same) rest; total = zero-add (edge.cost + sum) }))
    | inr inside ↦ elim (split rest) [
      | inl walk ↦ inl (step e v sum inside walk)
      | inr over ↦ inr (record { a = e.cost + over.a; b = over.b; before = step e edge.from over.a inside over.before; after = over.after; total = let t = over.total in omega arith })
    ]
  ]

  -- an edge that leads to its end at no lower cost changes none of the costs
  pub added_same : (root : ℕ) → ((n : ℕ) → cost edges root edge.from ≡ Some n → IsSomeAnd (cost edges root edge.to) (λ m. m ≤ n + edge.cost)) → (v : ℕ) → cost more root v ≡ cost edges root v
  added_same root higher v =
      IsCost-unique more root v (cost more root v) (cost edges root v) (cost_is more root v)
      (IsCost-from_settled more root (cost edges root) walks (cost-itself edges root) settled v) where
        walks : (v : ℕ) → IfSome (cost edges root v) (Walk more root v)
        walks v = at_cost (cost edges root v) refl where
          at_cost : (o : Option ℕ) → cost edges root v ≡ o → IfSome o (Walk more root v)
          at_cost None is = tt
          at_cost (Some n) is = walk_among with.kept (walk_of edges root v n is)

        settled : (e : Edge) (n : ℕ) → Contains more e → cost edges root e.from ≡ Some n → IsSomeAnd (cost edges root e.to) (λ m. m ≤ n + e.cost)
        settled e n member at = elim (with.no_other e member) [
          | inl same ↦ subst (λ (x : Edge). cost edges root x.from ≡ Some n → IsSomeAnd (cost edges root x.to) (λ m. m ≤ n + x.cost)) same (higher n) at
          | inr inside ↦
              let least = least_of_walk edges root e.to (n + e.cost) (Walk-then (walk_of edges root e.from n at) (Walk-edge edges e inside)) in
              within_some (cost edges root e.to) least.0 (n + e.cost) least.1 least.2
        ]

  -- an edge that isn't tight changes none of the costs as it goes
  pub removed_same : (root : ℕ) → ((n : ℕ) → cost more root edge.from ≡ Some n → cost more root edge.to ≡ Some (n + edge.cost) → ⊥) → (v : ℕ) → cost edges root v ≡ cost more root v
  removed_same root loose v = IsCost-unique edges root v (cost edges root v) (cost more root v) (cost_is edges root v) (at_cost (cost more root v) refl (cost_is more root v)) where
    tight : (n : ℕ) → ((sum : ℕ) → Walk more root v sum → n ≤ sum) → Over root v n → ⊥
    tight n least over =
        let from = least_of_walk more root edge.from over.a (walk_among with.kept over.before) in
        let to = least_of_walk more root edge.to (from.0 + edge.cost) (Walk-then (walk_of more root edge.from from.0 from.1) (Walk-edge more edge with.added)) in
        let long = least (to.0 + over.b) (Walk-then (walk_of more root edge.to to.0 to.1) over.after) in
        let total = over.total in
        let le = from.2 in let le' = to.2 in
        let same : to.0 ≡ from.0 + edge.cost = omega arith in
        loose from.0 from.1 (to.1 ∙ ap Some same)

    at_cost : (o : Option ℕ) → cost more root v ≡ o → IsCost more root v o → IsCost edges root v o
    at_cost None is none = λ sum walk. none sum (walk_among with.kept walk)
    at_cost (Some n) is least = elim (split least.0) [
      | inl walk ↦ (walk, λ sum other. least.1 sum (walk_among with.kept other))
      | inr over ↦ absurd (tight n least.1 over)
    ]

  -- the cost over the edge
  abbrev pub over_edge : ℕ → ℕ → Option ℕ
  over_edge u v = joined (joined (cost edges u edge.from) (Some edge.cost)) (cost more edge.to v)

  -- with the edge a cost is the lower of the one without it and the one over it
  pub added_cost : (u v : ℕ) → cost more u v ≡ lesser (cost edges u v) (over_edge u v)
  added_cost u v =
      IsCost-unique more u v (cost more u v) (lesser (cost edges u v) (over_edge u v)) (cost_is more u v)
      (by_costs (cost edges u v) (cost edges u edge.from) (cost more edge.to v) refl refl refl) where
        joined_walk : (a b : ℕ) → cost edges u edge.from ≡ Some a → cost more edge.to v ≡ Some b → Walk more u v (a + edge.cost + b)
        joined_walk a b from to = Walk-then (Walk-then (walk_among with.kept (walk_of edges u edge.from a from)) (Walk-edge more edge with.added)) (walk_of more edge.to v b to)

        -- each walk costs no less than one of both
        bound : (sum : ℕ) → Walk more u v sum → ((n : ℕ) × (cost edges u v ≡ Some n) × (n ≤ sum)) ⊎ ((a b : ℕ) × (cost edges u edge.from ≡ Some a) × (cost more edge.to v ≡ Some b) × (a + edge.cost + b ≤ sum))
        bound sum walk = elim (split walk) [
          | inl inside ↦ inl (least_of_walk edges u v sum inside)
          | inr over ↦
              let from = least_of_walk edges u edge.from over.a over.before in
              let to = least_of_walk more edge.to v over.b over.after in
              let total = over.total in let le = from.2 in let le' = to.2 in
              inr (from.0, to.0, from.1, to.1, omega arith)
        ]

        none : (x f t : Option ℕ) → cost edges u v ≡ None → (cost edges u edge.from ≡ None) ⊎ (cost more edge.to v ≡ None) → (sum : ℕ) → Walk more u v sum → ⊥
        none x f t isx either sum walk = elim (bound sum walk) [
          | inl inside ↦ clash (cost edges u v) inside.0 isx inside.1
          | inr way ↦ elim either [ inl isf ↦ clash (cost edges u edge.from) way.0 isf way.2 | inr ist ↦ clash (cost more edge.to v) way.1 ist way.3 ]
        ]

        inside_only : (n : ℕ) → cost edges u v ≡ Some n → (cost edges u edge.from ≡ None) ⊎ (cost more edge.to v ≡ None) → Walk more u v n × ((sum : ℕ) → Walk more u v sum → n ≤ sum)
        inside_only n isx either = (
          walk_among with.kept (walk_of edges u v n isx),
          λ sum walk. elim (bound sum walk) [
            | inl inside ↦ let same : inside.0 ≡ n = same_some inside.0 n (cost edges u v) inside.1 isx in let le = inside.2 in omega arith
            | inr way ↦ absurd (elim either [ inl isf ↦ clash (cost edges u edge.from) way.0 isf way.2 | inr ist ↦ clash (cost more edge.to v) way.1 ist way.3 ])
          ],
        )

        no_less : (a b sum : ℕ) → cost edges u edge.from ≡ Some a → cost more edge.to v ≡ Some b → Walk more u v sum → ((n : ℕ) × (cost edges u v ≡ Some n) × (n ≤ sum)) ⊎ (a + edge.cost + b ≤ sum)
        no_less a b sum isf ist walk = elim (bound sum walk) [
          | inl inside ↦ inl inside
          | inr way ↦
              let from : way.0 ≡ a = same_some way.0 a (cost edges u edge.from) way.2 isf in
              let to : way.1 ≡ b = same_some way.1 b (cost more edge.to v) way.3 ist in
              let le = way.4 in inr (omega arith)
        ]

        lower : (n k : ℕ) → (P : ℕ → Type 0) → P n → P k → P (min n k)
        lower n k P p q = let either : (min n k ≡ n) ⊎ (min n k ≡ k) = grind arith in
            elim either [ inl is ↦ subst P (sym is) p | inr is ↦ subst P (sym is) q ]

        of_costs : (x f t : Option ℕ) → cost edges u v ≡ x → cost edges u edge.from ≡ f → cost more edge.to v ≡ t → IsCost more u v (lesser x (joined (joined f (Some edge.cost)) t))
        of_costs None None t isx isf ist = none None None t isx (inl isf)
        of_costs None (Some a) None isx isf ist = none None (Some a) None isx (inr ist)
        of_costs None (Some a) (Some b) isx isf ist = (
          joined_walk a b isf ist,
          λ sum walk. elim (no_less a b sum isf ist walk) [
            | inl inside ↦ absurd (clash (cost edges u v) inside.0 isx inside.1)
            | inr le ↦ le
          ],
        )
        of_costs (Some n) None t isx isf ist = inside_only n isx (inl isf)
        of_costs (Some n) (Some a) None isx isf ist = inside_only n isx (inr ist)
        of_costs (Some n) (Some a) (Some b) isx isf ist = (
          lower n (a + edge.cost + b) (Walk more u v) (walk_among with.kept (walk_of edges u v n isx)) (joined_walk a b isf ist),
          λ sum walk. elim (no_less a b sum isf ist walk) [
            | inl inside ↦ let same : inside.0 ≡ n = same_some inside.0 n (cost edges u v) inside.1 isx in let le = inside.2 in omega arith
            | inr le ↦ omega arith
          ],
        )

        by_costs : (x f t : Option ℕ) → cost edges u v ≡ x → cost edges u edge.from ≡ f → cost more edge.to v ≡ t → IsCost more u v (lesser (cost edges u v) (joined (joined (cost edges u edge.from) (Some edge.cost)) (cost more edge.to v)))
        by_costs x f t isx isf ist = rw (isx, isf, ist) (of_costs x f t isx isf ist)

-- ---- edges put in and taken out

pub with_included : (edge : Edge) (edges : List Edge) → IsWith edges edge (include_edge edge edges)
with_included edge edges = record {
  added = include-member edge edges edge (inl refl);
  kept = λ e member. include-member edge edges e (inr member);
  no_other = λ e member. member_of_include edge edges e member;
}

pub with_excluded : (edge : Edge) (more : List Edge) → Contains more edge → IsWith (exclude_edge edge more) edge more
with_excluded edge more there = record {
  added = there;
  kept = λ e member. (member_of_filter (λ b. not (same_edge edge b)) more e member).0;
  no_other = λ e member. at_test e member (same_edge edge e) refl;
} where
  at_test : (e : Edge) → Contains more e → (t : Bool) → same_edge edge e ≡ t → (edge ≡ e) ⊎ Contains (exclude_edge edge more) e
  at_test e member true same = inl (same-edge edge e same)
  at_test e member false other = inr (filter_member (λ b. not (same_edge edge b)) more e member (ap not other))

-- the edges before a change, beside those after it
pub before_is_more : (edge : Edge) (added : Bool) (after : List Edge) → added ≡ false → IsWith after edge (graph_before edge added after)
before_is_more edge true after is = absurd (false≢true (sym is))
before_is_more edge false after is = with_included edge after

pub before_is_less : (edge : Edge) (added : Bool) (after : List Edge) → added ≡ true → Contains after edge → IsWith (graph_before edge added after) edge after
before_is_less edge true after is there = with_excluded edge after there
before_is_less edge false after is there = absurd (false≢true is)

-- an edge put in and taken out again, and the other way round
pub excluded_again : (edge : Edge) (edges : List Edge) → IsGraph edges → (Contains edges edge → ⊥) → exclude_edge edge (include_edge edge edges) ≡ edges
excluded_again edge edges graph absent =
    rising-same (exclude_edge edge (include_edge edge edges)) edges
    (AllPairs-filter (λ a b. IsTrue (is_edge_before a b)) (λ b. not (same_edge edge b)) (include_edge edge edges) (rising-include edge edges graph.rising)) graph.rising (λ e. (
      λ member. let kept = member_of_filter (λ b. not (same_edge edge b)) (include_edge edge edges) e member in elim (member_of_include edge edges e kept.0) [
        | inl same ↦ absurd (false≢true (sym (ap not (ap (same_edge edge) (sym same) ∙ same-itself edge)) ∙ kept.1))
        | inr inside ↦ inside
      ],
      λ member. elim ((with_excluded edge (include_edge edge edges) (include-member edge edges edge (inl refl))).no_other e (include-member edge edges e (inr member))) [
        | inl same ↦ absurd (absent (subst (Contains edges) (sym same) member))
        | inr inside ↦ inside
      ],
    ))

pub included_again : (edge : Edge) (edges : List Edge) → IsGraph edges → Contains edges edge → include_edge edge (exclude_edge edge edges) ≡ edges
included_again edge edges graph there =
    let less = with_excluded edge edges there in
    let more = with_included edge (exclude_edge edge edges) in
    rising-same (include_edge edge (exclude_edge edge edges)) edges (rising-include edge (exclude_edge edge edges) (graph-exclude edge edges graph).rising) graph.rising (λ e. (
      λ member. elim (more.no_other e member) [ inl same ↦ subst (Contains edges) same there | inr inside ↦ less.kept e inside ],
      λ member. elim (less.no_other e member) [ inl same ↦ subst (Contains (include_edge edge (exclude_edge edge edges))) same more.added | inr inside ↦ more.kept e inside ],
    ))

pub not_excluded : (edge : Edge) (edges : List Edge) → Contains (exclude_edge edge edges) edge → ⊥
not_excluded edge edges member = false≢true (sym (ap not (same-itself edge)) ∙ (member_of_filter (λ b. not (same_edge edge b)) edges edge member).1)
