-- The edges of a link state, by the least metrics between two routers.
use Rattle.std.proofs.Common.{◌≡◌, ℕ, Bool, true, false, cond, ◌↔◌, List, [], ◌∷◌, ◌++◌, filter, Contains, Option, Some, None, IfSome, is_some, refl, sym, ap, ap₂, subst, ◌∙◌, inl, inr, eqb-true, eq-eqb}
use Rattle.std.specs.List.{flat_map}
use Rattle.std.specs.List.Sorted.{IsPermutation}
use Rattle.std.proofs.lemmas.Bool.{false≢true, and_parts, and_from}
use Rattle.std.proofs.lemmas.List.Elements.{Contains-append_left, Contains-append_right, Contains-append_cases}
use Rattle.std.proofs.lemmas.List.Sorted.{Contains-permutation, IsPermutation-sym}
use Rattle.rcp_base.specs.declared.names.Edge.{Edge}
use Rattle.rcp_base.specs.Maps.{get_at}
use Rattle.rcp_model.specs.LinkState.{Kept, LinkState, same_number, kept_of}
use Rattle.rcp_model.specs.Edges.{metric_to, two_way, learned, edges_of}
use Rattle.rcp_model.proofs.MemberLemmas.{Contains-head, Contains-tail, Contains-cases, Contains-none, filter_member, member_of_filter}
use Rattle.lsdb.specs.Databases.{IsKept, IsOnce, Holds}
use Rattle.lsdb.specs.Links.{links_in, least_between, is_cost, is_two_way, AreEdges}
use Rattle.lsdb.proofs.MapOrder.{once-rising, get_member, member_get}
use Rattle.lsdb.proofs.Answering.{state_of}
use Rattle.lsdb.proofs.LeastLinks.{edge_of, metric_of, least-member, least-same, least-kept}
use Rattle.lsdb.proofs.Sorting.{rising_is}

-- ---- members of lists that are joined

flat_member : {X Y : Type 0} (f : X → List Y) (xs : List X) (x : X) (y : Y) → Contains xs x → Contains (f x) y → Contains (flat_map f xs) y
flat_member f [] x y at member = absurd (Contains-none x at)
flat_member f (a ∷ xs) x y at member = elim (Contains-cases a xs x at) [
  | inl same ↦ Contains-append_left (f a) (flat_map f xs) y (subst (λ b. Contains (f b) y) (sym same) member)
  | inr later ↦ Contains-append_right (f a) (flat_map f xs) y (flat_member f xs x y later member)
]

member_of_flat : {X Y : Type 0} (f : X → List Y) (xs : List X) (y : Y) → Contains (flat_map f xs) y → (x : X) × Contains xs x × Contains (f x) y
member_of_flat f [] y member = absurd (Contains-none y member)
member_of_flat f (a ∷ xs) y member = elim (Contains-append_cases (f a) (flat_map f xs) y member) [
  | inl here ↦ (a, Contains-head a xs, here)
  | inr later ↦ let found = member_of_flat f xs y later in (found.0, Contains-tail a xs found.0 found.1, found.2)
]

-- ---- what is learned of two routers

-- the least metric of the one router's links to the other
abbrev pub metric : List (ℕ × Kept) → ℕ → ℕ → Option ℕ
metric routers from to = metric_of from to (get_at same_number from routers)

-- an edge of this cost is learned
pub record IsTold (routers : List (ℕ × Kept)) (edge : Edge) : Type 0 where
  pub there : metric routers edge.from edge.to ≡ Some edge.cost
  pub back : is_some (metric routers edge.to edge.from) ≡ true

-- the edge from one to the other, by the metric there and whether there is one back
abbrev edges_by : Kept → Kept → Option ℕ → Bool → List Edge
edges_by u v found back = elim found [ None ↦ [] | Some cost ↦ cond back (edge_of u.lsa.key v.lsa.key cost ∷ []) [] ]

two_way-member : (u v : Kept) (edge : Edge) → Contains (two_way u v) edge
    → (edge.from ≡ u.lsa.key) × (edge.to ≡ v.lsa.key) × (metric_to v.lsa.key u.lsa.content ≡ Some edge.cost) × (is_some (metric_to u.lsa.key v.lsa.content) ≡ true)
two_way-member u v edge member = by_metric (metric_to v.lsa.key u.lsa.content) refl (is_some (metric_to u.lsa.key v.lsa.content)) refl member where
  by_metric : (found : Option ℕ) → metric_to v.lsa.key u.lsa.content ≡ found → (back : Bool) → is_some (metric_to u.lsa.key v.lsa.content) ≡ back
      → Contains (edges_by u v found back) edge
      → (edge.from ≡ u.lsa.key) × (edge.to ≡ v.lsa.key) × (metric_to v.lsa.key u.lsa.content ≡ Some edge.cost) × (is_some (metric_to u.lsa.key v.lsa.content) ≡ true)
  by_metric None is back back-is member = absurd (Contains-none edge member)
  by_metric (Some cost) is false back-is member = absurd (Contains-none edge member)
  by_metric (Some cost) is true back-is member = elim (Contains-cases (edge_of u.lsa.key v.lsa.key cost) [] edge member) [
    | inl same ↦ (sym (ap (λ (e : Edge). e.from) same), sym (ap (λ (e : Edge). e.to) same), is ∙ ap (λ (e : Edge). Some e.cost) same, back-is)
    | inr later ↦ absurd (Contains-none edge later)
  ]

member-two_way : (u v : Kept) (edge : Edge) → u.lsa.key ≡ edge.from → v.lsa.key ≡ edge.to → metric_to edge.to u.lsa.content ≡ Some edge.cost → is_some (metric_to edge.from v.lsa.content) ≡ true → Contains (two_way u v) edge
member-two_way u v edge from to there back =
    let cost : metric_to v.lsa.key u.lsa.content ≡ Some edge.cost = subst (λ k. metric_to k u.lsa.content ≡ Some edge.cost) (sym to) there in
    let both : is_some (metric_to u.lsa.key v.lsa.content) ≡ true = subst (λ k. is_some (metric_to k v.lsa.content) ≡ true) (sym from) back in
    subst (λ l. Contains l edge) (sym (ap₂ (edges_by u v) cost both)) (subst (λ e. Contains (e ∷ []) edge) (sym shown) (Contains-head edge [])) where
      shown : edge_of u.lsa.key v.lsa.key edge.cost ≡ edge
      shown = ap (λ k. edge_of k v.lsa.key edge.cost) from ∙ ap (λ k. edge_of edge.from k edge.cost) to

module _ (state : LinkState) (once : IsOnce state.routers) (own : (router : ℕ) → IfSome (kept_of router state) (λ kept. kept.lsa.key ≡ router)) where
  -- an instance among the entries is that of its router
  own_of : (entry : ℕ × Kept) → Contains state.routers entry → (kept_of entry.1.lsa.key state ≡ Some entry.1)
  own_of entry member =
      let found = member_get entry.0 entry.1 state.routers once member in
      let router : entry.1.lsa.key ≡ entry.0 = subst (λ (f : Option Kept). IfSome f (λ kept. kept.lsa.key ≡ entry.0)) found (own entry.0) in
      subst (λ k. kept_of k state ≡ Some entry.1) (sym router) found

  pub told-learned : (edge : Edge) → Contains (learned state) edge → IsTold state.routers edge
  told-learned edge member =
      let outer = member_of_flat (λ (u : ℕ × Kept). flat_map (λ (v : ℕ × Kept). two_way u.1 v.1) state.routers) state.routers edge member in
      let inner = member_of_flat (λ (v : ℕ × Kept). two_way outer.0.1 v.1) state.routers edge outer.2 in
      let parts = two_way-member outer.0.1 inner.0.1 edge inner.2 in
      let u : kept_of edge.from state ≡ Some outer.0.1 = subst (λ k. kept_of k state ≡ Some outer.0.1) (sym parts.0) (own_of outer.0 outer.1) in
      let v : kept_of edge.to state ≡ Some inner.0.1 = subst (λ k. kept_of k state ≡ Some inner.0.1) (sym parts.1) (own_of inner.0 inner.1) in
      record {
        there = ap (metric_of edge.from edge.to) u ∙ subst (λ k. metric_to k outer.0.1.lsa.content ≡ Some edge.cost) (sym parts.1) parts.2;
        back = ap (λ (f : Option Kept). is_some (metric_of edge.to edge.from f)) v ∙ subst (λ k. is_some (metric_to k inner.0.1.lsa.content) ≡ true) (sym parts.0) parts.3;
      }

  pub learned-told : (edge : Edge) → IsTold state.routers edge → Contains (learned state) edge
  learned-told edge told = by_found (kept_of edge.from state) refl (kept_of edge.to state) refl told.there told.back where
    router_of : (k : ℕ) (kept : Kept) → kept_of k state ≡ Some kept → kept.lsa.key ≡ k
    router_of k kept found = subst (λ (f : Option Kept). IfSome f (λ kept. kept.lsa.key ≡ k)) found (own k)

    by_found : (u : Option Kept) → kept_of edge.from state ≡ u → (v : Option Kept) → kept_of edge.to state ≡ v → metric_of edge.from edge.to u ≡ Some edge.cost → is_some (metric_of edge.to edge.from v) ≡ true
        → Contains (learned state) edge
    by_found None is v v-is there back = absurd cc
    by_found (Some u) is None v-is there back = absurd (false≢true back)
    by_found (Some u) is (Some v) v-is there back =
        flat_member (λ (u : ℕ × Kept). flat_map (λ (v : ℕ × Kept). two_way u.1 v.1) state.routers) state.routers (edge.from, u) edge (get_member edge.from u state.routers is)
        (flat_member (λ (w : ℕ × Kept). two_way u w.1) state.routers (edge.to, v) edge (get_member edge.to v state.routers v-is)
        (member-two_way u v edge (router_of edge.from u is) (router_of edge.to v v-is) there back))

-- ---- what is found among the links

cost_is : (n : ℕ) (found : Option ℕ) → is_cost n found ≡ true → found ≡ Some n
cost_is n None is = absurd (false≢true is)
cost_is n (Some m) is = ap Some (eqb-true m n is)

is_cost-same : (n : ℕ) (found : Option ℕ) → found ≡ Some n → is_cost n found ≡ true
is_cost-same n found is = rw is (eq-eqb n n refl)

module _ (routers : List (ℕ × Kept)) (links : List Edge) (kept : IsKept routers) (collected : IsPermutation (links_in routers) links) where
  same_links : (edge : Edge) → Contains links edge ↔ Contains (links_in routers) edge
  same_links edge = (
    λ member. Contains-permutation links (links_in routers) edge (IsPermutation-sym (links_in routers) links collected) member,
    λ member. Contains-permutation (links_in routers) links edge collected member,
  )

  least_told : (from to : ℕ) → least_between from to links ≡ metric routers from to
  least_told from to = least-same from to links (links_in routers) same_links ∙ least-kept from to routers (once-rising routers kept.rising)

  pub told-found : (edge : Edge) → Contains (filter (is_two_way links) links) edge → IsTold routers edge
  told-found edge member =
      let parts = and_parts (is_cost edge.cost (least_between edge.from edge.to links)) (is_some (least_between edge.to edge.from links)) (member_of_filter (is_two_way links) links edge member).1 in
      record {
        there = sym (least_told edge.from edge.to) ∙ cost_is edge.cost (least_between edge.from edge.to links) parts.0;
        back = ap is_some (sym (least_told edge.to edge.from)) ∙ parts.1;
      }

  found-told : (edge : Edge) → IsTold routers edge → Contains (filter (is_two_way links) links) edge
  found-told edge told =
      let least = least_told edge.from edge.to ∙ told.there in
      filter_member (is_two_way links) links edge (least-member edge.from edge.to links edge.cost least)
      (and_from _ _ (is_cost-same edge.cost (least_between edge.from edge.to links) least) (ap is_some (least_told edge.to edge.from) ∙ told.back))

  module _ (state : LinkState) (holds : Holds (state_of routers) state) where
    own_in : (router : ℕ) → IfSome (kept_of router state) (λ kept. kept.lsa.key ≡ router)
    own_in router = subst (λ (f : Option Kept). IfSome f (λ kept. kept.lsa.key ≡ router)) (holds.same router) (kept.own router)

    same_told : (edge : Edge) → IsTold routers edge ↔ IsTold state.routers edge
    same_told edge =
        let from = holds.same edge.from in
        let to = holds.same edge.to in (
          λ told. record { there = ap (metric_of edge.from edge.to) (sym from) ∙ told.there; back = ap (λ (f : Option Kept). is_some (metric_of edge.to edge.from f)) (sym to) ∙ told.back },
          λ told. record { there = ap (metric_of edge.from edge.to) from ∙ told.there; back = ap (λ (f : Option Kept). is_some (metric_of edge.to edge.from f)) to ∙ told.back },
        )

    same_edges : (fixed : List Edge) (edge : Edge) → Contains (filter (is_two_way links) links ++ fixed) edge ↔ Contains (learned state ++ fixed) edge
    same_edges fixed edge = (
      λ member. elim (Contains-append_cases (filter (is_two_way links) links) fixed edge member) [
        | inl found ↦ Contains-append_left (learned state) fixed edge (learned-told state holds.once own_in edge ((same_told edge).0 (told-found edge found)))
        | inr more ↦ Contains-append_right (learned state) fixed edge more
      ],
      λ member. elim (Contains-append_cases (learned state) fixed edge member) [
        | inl told ↦ Contains-append_left (filter (is_two_way links) links) fixed edge (found-told edge ((same_told edge).1 (told-learned state holds.once own_in edge told)))
        | inr more ↦ Contains-append_right (filter (is_two_way links) links) fixed edge more
      ],
    )

    pub edges_are : (fixed found : List Edge) → AreEdges links fixed found → found ≡ edges_of state fixed
    unfolding edges_of
    edges_are fixed found edges = rising_is found (learned state ++ fixed) edges.rising (λ edge. (
      λ member. (same_edges fixed edge).0 ((edges.members edge).0 member),
      λ member. (edges.members edge).1 ((same_edges fixed edge).1 member),
    ))
