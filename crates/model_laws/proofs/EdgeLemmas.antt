-- The edges are those of the roster and those that are learned.
use Rattle.std.proofs.Common.{◌≡◌, ℕ, ◌<◌, ◌≤◌, min, Bool, true, false, cond, ◌&&◌, eqb, leb, ◌⊎◌, List, [], ◌∷◌, ◌++◌, Contains, Option, Some, None, refl, sym, ap, ap₂, subst, ◌∙◌, inl, inr, arith}
use Rattle.std.specs.Prelude.{◌↔◌, is_some}
use Rattle.std.specs.List.{flat_map}
use Rattle.std.proofs.lemmas.Bool.{cases_Bool, both_ways, and_parts, and_from, eqb-true, eq-eqb, leb-true, leb-false, false≢true}
use Rattle.std.proofs.lemmas.List.Elements.{Contains-append_left, Contains-append_right, Contains-append_cases}
use Rattle.rcp_base.specs.declared.names.Edge.{Edge}
use Rattle.rcp_model.specs.LinkState.{RouterLink, Kept, LinkState}
use Rattle.rcp_model.specs.Edges.{POINT_TO_POINT, least, metric_to, two_way, learned, rising_edges, edges_of}
use Rattle.rcp_model.proofs.MemberLemmas.{Contains-head, Contains-tail, Contains-cases, Contains-none}
use Rattle.rcp_model.proofs.GraphLemmas.{IsRising, member_of_include, include-member, rising-include}
use Rattle.model_laws.specs.LearnedEdges.{IsLinkTo, IsLeastMetric, IsLearned}

-- ---- the least metric

abbrev is_link : ℕ → RouterLink → Bool
is_link router link = eqb link.kind POINT_TO_POINT && eqb link.id router

link_is : (router : ℕ) (link : RouterLink) → is_link router link ≡ true → IsLinkTo router link
link_is router link t =
    let parts = and_parts (eqb link.kind POINT_TO_POINT) (eqb link.id router) t in
    record { kind = eqb-true link.kind POINT_TO_POINT parts.0; id = eqb-true link.id router parts.1 }

is_link-is : (router : ℕ) (link : RouterLink) → IsLinkTo router link → is_link router link ≡ true
is_link-is router link is = and_from (eqb link.kind POINT_TO_POINT) (eqb link.id router) (eq-eqb link.kind POINT_TO_POINT is.kind) (eq-eqb link.id router is.id)

-- what was found: no link, or the least metric
abbrev Found : ℕ → List RouterLink → Option ℕ → Type 0
Found router links None = (link : RouterLink) → Contains links link → IsLinkTo router link → ⊥
Found router links (Some metric) = IsLeastMetric router links metric

lesser : (router : ℕ) (l : RouterLink) (links : List RouterLink) → IsLinkTo router l → (metric : ℕ) → IsLeastMetric router links metric → IsLeastMetric router (l ∷ links) (min l.metric metric)
lesser router l links to metric h = elim (cases_Bool (leb l.metric metric)) [ inl t ↦ here (leb-true l.metric metric t) | inr f ↦ later (leb-false l.metric metric f) ] where
  below : (other : RouterLink) → Contains (l ∷ links) other → IsLinkTo router other → min l.metric metric ≤ other.metric
  below other at is = elim (Contains-cases l links other at) [
    | inl same ↦ subst (λ (x : RouterLink). min l.metric metric ≤ x.metric) same (omega arith)
    | inr rest ↦ omega (arith, h.least other rest is)
  ]

  here : l.metric ≤ metric → IsLeastMetric router (l ∷ links) (min l.metric metric)
  here le = record { link = l; listed = Contains-head l links; to = to; has = omega (arith, le); least = below }

  later : metric < l.metric → IsLeastMetric router (l ∷ links) (min l.metric metric)
  later lt = record { link = h.link; listed = Contains-tail l links h.link h.listed; to = h.to; has = omega (arith, lt, h.has); least = below }

found : (router : ℕ) (links : List RouterLink) → Found router links (metric_to router links)
found router [] = λ link at is. absurd (Contains-none link at)
found router (l ∷ links) = by (is_link router l) refl (metric_to router links) (found router links) where
  other_than : is_link router l ≡ false → (link : RouterLink) → Contains (l ∷ links) link → IsLinkTo router link → Contains links link
  other_than f link at is = elim (Contains-cases l links link at) [
    | inl same ↦ absurd (both_ways (is_link router l) f (subst (λ x. is_link router x ≡ true) (sym same) (is_link-is router link is)))
    | inr rest ↦ rest
  ]

  by : (t : Bool) → is_link router l ≡ t → (o : Option ℕ) → Found router links o → Found router (l ∷ links) (cond t (Some (least l.metric o)) o)
  by false f None none = λ link at is. none link (other_than f link at is) is
  by false f (Some metric) h = record {
    link = h.link;
    listed = Contains-tail l links h.link h.listed;
    to = h.to;
    has = h.has;
    least = λ other at is. h.least other (other_than f other at is) is;
  }
  by true t None none = record {
    link = l;
    listed = Contains-head l links;
    to = link_is router l t;
    has = refl;
    least = λ other at is. elim (Contains-cases l links other at) [
      | inl same ↦ subst (λ (x : RouterLink). l.metric ≤ x.metric) same (omega arith)
      | inr rest ↦ absurd (none other rest is)
    ];
  }
  by true t (Some metric) h = lesser router l links (link_is router l t) metric h

metric-least : (router : ℕ) (links : List RouterLink) (metric : ℕ) → metric_to router links ≡ Some metric → IsLeastMetric router links metric
metric-least router links metric is = subst (Found router links) is (found router links)

least-metric : (router : ℕ) (links : List RouterLink) (metric : ℕ) → IsLeastMetric router links metric → metric_to router links ≡ Some metric
least-metric router links metric h = by (metric_to router links) (found router links) where
  by : (o : Option ℕ) → Found router links o → o ≡ Some metric
  by None none = absurd (none h.link h.listed h.to)
  by (Some other) g = ap Some (omega (arith, h.has, g.has, h.least g.link g.listed g.to, g.least h.link h.listed h.to))

some-link : (router : ℕ) (links : List RouterLink) → is_some (metric_to router links) ≡ true → (link : RouterLink) × Contains links link × IsLinkTo router link
some-link router links some = by (metric_to router links) (found router links) some where
  by : (o : Option ℕ) → Found router links o → is_some o ≡ true → (link : RouterLink) × Contains links link × IsLinkTo router link
  by None none some = absurd (false≢true some)
  by (Some metric) h some = (h.link, h.listed, h.to)

link-some : (router : ℕ) (links : List RouterLink) (link : RouterLink) → Contains links link → IsLinkTo router link → is_some (metric_to router links) ≡ true
link-some router links link at is = by (metric_to router links) (found router links) where
  by : (o : Option ℕ) → Found router links o → is_some o ≡ true
  by None none = absurd (none link at is)
  by (Some metric) h = refl

-- ---- the edge of two instances

abbrev edge_of : ℕ → ℕ → ℕ → Edge
edge_of from to cost = record { from = from; to = to; cost = cost }

abbrev edges_by : Kept → Kept → Option ℕ → Bool → List Edge
edges_by u v metric back = elim metric [ None ↦ [] | Some cost ↦ cond back (edge_of u.lsa.key v.lsa.key cost ∷ []) [] ]

record IsBetween (u v : Kept) (edge : Edge) : Type 0 where
  from : u.lsa.key ≡ edge.from
  to : v.lsa.key ≡ edge.to
  there : metric_to v.lsa.key u.lsa.content ≡ Some edge.cost
  back : is_some (metric_to u.lsa.key v.lsa.content) ≡ true

two_way-between : (u v : Kept) (edge : Edge) → Contains (two_way u v) edge → IsBetween u v edge
two_way-between u v edge member = by (metric_to v.lsa.key u.lsa.content) refl (is_some (metric_to u.lsa.key v.lsa.content)) refl member where
  by : (o : Option ℕ) → metric_to v.lsa.key u.lsa.content ≡ o → (b : Bool) → is_some (metric_to u.lsa.key v.lsa.content) ≡ b → Contains (edges_by u v o b) edge → IsBetween u v edge
  by None is b b_is member = absurd (Contains-none edge member)
  by (Some cost) is false b_is member = absurd (Contains-none edge member)
  by (Some cost) is true b_is member = elim (Contains-cases (edge_of u.lsa.key v.lsa.key cost) [] edge member) [
    | inl same ↦ record {
      from = ap (λ (e : Edge). e.from) same;
      to = ap (λ (e : Edge). e.to) same;
      there = is ∙ ap (λ (e : Edge). Some e.cost) same;
      back = b_is;
    }
    | inr none ↦ absurd (Contains-none edge none)
  ]

between-two_way : (u v : Kept) (edge : Edge) → IsBetween u v edge → Contains (two_way u v) edge
between-two_way u v edge h =
    subst (λ l. Contains l edge) (sym (ap₂ (edges_by u v) h.there h.back)) (subst (λ e. Contains (e ∷ []) edge) (sym shown) (Contains-head edge [])) where
      shown : edge_of u.lsa.key v.lsa.key edge.cost ≡ edge
      shown = ap (λ k. edge_of k v.lsa.key edge.cost) h.from ∙ ap (λ k. edge_of edge.from k edge.cost) h.to

-- ---- learned edges

flat_member : {X Y : Type 0} (f : X → List Y) (xs : List X) (x : X) (y : Y) → Contains xs x → Contains (f x) y → Contains (flat_map f xs) y
flat_member f [] x y at member = absurd (Contains-none x at)
flat_member f (a ∷ xs) x y at member = elim (Contains-cases a xs x at) [
  | inl same ↦ Contains-append_left (f a) (flat_map f xs) y (subst (λ b. Contains (f b) y) (sym same) member)
  | inr later ↦ Contains-append_right (f a) (flat_map f xs) y (flat_member f xs x y later member)
]

member_of_flat : {X Y : Type 0} (f : X → List Y) (xs : List X) (y : Y) → Contains (flat_map f xs) y → (x : X) × Contains xs x × Contains (f x) y
member_of_flat f [] y member = absurd (Contains-none y member)
member_of_flat f (a ∷ xs) y member = elim (Contains-append_cases (f a) (flat_map f xs) y member) [
  | inl here ↦ (a, Contains-head a xs, here)
  | inr later ↦ let found = member_of_flat f xs y later in (found.0, Contains-tail a xs found.0 found.1, found.2)
]

learned-is : (state : LinkState) (edge : Edge) → Contains (learned state) edge → IsLearned state edge
learned-is state edge member =
    let outer = member_of_flat (λ (u : ℕ × Kept). flat_map (λ (v : ℕ × Kept). two_way u.1 v.1) state.routers) state.routers edge member in
    let inner = member_of_flat (λ (v : ℕ × Kept). two_way outer.0.1 v.1) state.routers edge outer.2 in
    let h = two_way-between outer.0.1 inner.0.1 edge inner.2 in
    let there : metric_to edge.to outer.0.1.lsa.content ≡ Some edge.cost = subst (λ k. metric_to k outer.0.1.lsa.content ≡ Some edge.cost) h.to h.there in
    let back : is_some (metric_to edge.from inner.0.1.lsa.content) ≡ true = subst (λ k. is_some (metric_to k inner.0.1.lsa.content) ≡ true) h.from h.back in
    record {
      first = outer.0;
      second = inner.0;
      first_kept = outer.1;
      second_kept = inner.1;
      from = h.from;
      to = h.to;
      there = metric-least edge.to outer.0.1.lsa.content edge.cost there;
      back = some-link edge.from inner.0.1.lsa.content back;
    }

is-learned : (state : LinkState) (edge : Edge) → IsLearned state edge → Contains (learned state) edge
is-learned state edge h =
    flat_member (λ (u : ℕ × Kept). flat_map (λ (v : ℕ × Kept). two_way u.1 v.1) state.routers) state.routers h.first edge h.first_kept
    (flat_member (λ (v : ℕ × Kept). two_way h.first.1 v.1) state.routers h.second edge h.second_kept
    (between-two_way h.first.1 h.second.1 edge (record {
      from = h.from;
      to = h.to;
      there = subst (λ k. metric_to k h.first.1.lsa.content ≡ Some edge.cost) (sym h.to) (least-metric edge.to h.first.1.lsa.content edge.cost h.there);
      back = subst (λ k. is_some (metric_to k h.second.1.lsa.content) ≡ true) (sym h.from) (link-some edge.from h.second.1.lsa.content h.back.0 h.back.1 h.back.2);
    })))

-- ---- sorted, each once

rising_member : (edges : List Edge) (edge : Edge) → Contains edges edge → Contains (rising_edges edges) edge
rising_member [] edge member = absurd (Contains-none edge member)
rising_member (a ∷ edges) edge member = include-member a (rising_edges edges) edge (elim (Contains-cases a edges edge member) [
  | inl is ↦ inl is
  | inr later ↦ inr (rising_member edges edge later)
])

member_of_rising : (edges : List Edge) (edge : Edge) → Contains (rising_edges edges) edge → Contains edges edge
member_of_rising [] edge member = absurd (Contains-none edge member)
member_of_rising (a ∷ edges) edge member = elim (member_of_include a (rising_edges edges) edge member) [
  | inl is ↦ subst (Contains (a ∷ edges)) is (Contains-head a edges)
  | inr later ↦ Contains-tail a edges edge (member_of_rising edges edge later)
]

rising_all : (edges : List Edge) → IsRising (rising_edges edges)
rising_all [] = λ i j d lt within. absurd (omega arith)
rising_all (a ∷ edges) = rising-include a (rising_edges edges) (rising_all edges)

pub edges-members : (state : LinkState) (fixed : List Edge) (edge : Edge) → Contains (edges_of state fixed) edge ↔ (Contains fixed edge ⊎ IsLearned state edge)
unfolding edges_of
edges-members state fixed edge = (
  λ member. elim (Contains-append_cases (learned state) fixed edge (member_of_rising (learned state ++ fixed) edge member)) [
    | inl heard ↦ inr (learned-is state edge heard)
    | inr set ↦ inl set
  ],
  λ either. rising_member (learned state ++ fixed) edge (elim either [
    | inl set ↦ Contains-append_right (learned state) fixed edge set
    | inr heard ↦ Contains-append_left (learned state) fixed edge (is-learned state edge heard)
  ]),
)

pub edges-rising : (state : LinkState) (fixed : List Edge) → IsRising (edges_of state fixed)
unfolding edges_of
edges-rising state fixed = rising_all (learned state ++ fixed)
