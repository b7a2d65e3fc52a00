-- Searches over edges: what those that were passed aren't, and what the first other one is.
use Rattle.std.proofs.Common.{◌≡◌, ℕ, zero, suc, ◌+◌, ◌<◌, ◌≤◌, true, false, ◌&&◌, ◌||◌, ◌==◌, nat_lt, ◌⊎◌, List, [], ◌∷◌, ◌++◌, length, get_or, take, AllPairs, Contains, IsTrue, IsSome, is_some, Option, Some, None, slice_get, refl, sym, ap, subst, ◌∙◌, inl, inr, arith, eq-eqb, eqb-true, append_assoc, append-nil, length-append, option_map}
use Rattle.std.proofs.lemmas.Bool.Decides.{nat_tests}
use Rattle.std.proofs.lemmas.Option.{same_Some, none-some, get_or_from_slice_get, slice_get_within, slice_get_cases}
use Rattle.std.proofs.lemmas.List.{get_or_default, take_more, take_all}
use Rattle.std.proofs.lemmas.List.Kept.{AllPairs-filter}
use Rattle.rcp_base.specs.declared.names.Edge.{Edge}
use Rattle.rcp_base.specs.declared.names.Member.{Member}
use Rattle.rcp_model.specs.RouteServer.{router_at}
use Rattle.rcp_model.specs.Costs.{Walk, step, cost}
use Rattle.rcp_model.specs.Edges.{is_edge_before}
use Rattle.rcp_model.specs.Graphs.{IsGraph, edges_from}
use Rattle.rcp_model.proofs.MemberLemmas.{filter_member, member_of_filter}
use Rattle.rcp_model.proofs.GraphLemmas.{before-itself, before-not_back}
use Rattle.cost_rows.proofs.BoundLemmas.{walk_of, least_of_walk}
use Rattle.hop_walk.specs.Hops.{IsNext, IsLeastNext, IsPath, arrived, onward}
use Rattle.hop_walk.specs.Ways.{IsFreeTo, IsLeastFreeTo}
use Rattle.hop_walk.proofs.WayLemmas.{cost_of_some, next_of}

places : (k i : ℕ) → (k < i) ⊎ ((k ≡ i) ⊎ (i < k))
places k i = grind arith

-- ---- edges of cost 0

-- the edges of a graph in order, none of the first ones free
pub record PassedFree (edges : List Edge) (v : ℕ) (items : List Edge) (i : ℕ) : Type 0 where
  pub items_are : items ≡ edges
  pub graph : IsGraph edges
  pub none : (k : ℕ) (d : Edge) → k < i → IsFreeTo edges v (get_or items k d) → ⊥

pub found_free : (edges : List Edge) (v : ℕ) (items : List Edge) (i : ℕ) (e : Edge) → PassedFree edges v items i → i < length items → e ≡ get_or items i e → IsSome (cost edges e.from v) → e.cost ≡ 0
    → IsLeastFreeTo edges v e
found_free edges v items i e passed within read begins free = record {
  among = record { there = subst (λ es. Contains es e) passed.items_are (i, within, sym read); begins = begins; free = free };
  least = λ other is. at_place other is (subst (λ es. Contains es other) (sym passed.items_are) is.there);
} where
  rising : AllPairs (λ a b. IsTrue (is_edge_before a b)) items
  rising = subst (AllPairs (λ a b. IsTrue (is_edge_before a b))) (sym passed.items_are) passed.graph.rising

  at_place : (other : Edge) → IsFreeTo edges v other → Contains items other → is_edge_before other e ≡ false
  at_place other is member = elim (places member.0 i) [
    | inl before ↦ absurd (passed.none member.0 other before (subst (IsFreeTo edges v) (sym member.2) is))
    | inr (inl here) ↦
        let same : other ≡ e = sym member.2 ∙ ap (λ j. get_or items j other) here ∙ get_or_default items i other e within ∙ sym read in
        subst (λ a. is_edge_before a e ≡ false) (sym same) (before-itself e)
    | inr (inr later) ↦ before-not_back e other
        (subst (λ a. is_edge_before a other ≡ true) (get_or_default items i other e within ∙ sym read) (subst (λ b. is_edge_before (get_or items i other) b ≡ true) member.2 (rising i member.0 other later member.1)))
  ]

-- ---- the next router

-- an edge and the way on from its end cost so much
abbrev pub LeadsOn : List Edge → ℕ → ℕ → Edge → Type 0
LeadsOn edges v total edge = (onward : ℕ) × (cost edges edge.to v ≡ Some onward) × (edge.cost + onward ≡ total)

pub record PassedEdges (edges : List Edge) (u v total : ℕ) (items : List Edge) (i : ℕ) : Type 0 where
  pub items_are : items ≡ edges_from u edges
  pub graph : IsGraph edges
  pub total_is : cost edges u v ≡ Some total
  pub none : (k : ℕ) (d : Edge) → k < i → LeadsOn edges v total (get_or items k d) → ⊥

pub passed_edge : (edges : List Edge) (u v total : ℕ) (items : List Edge) (i : ℕ) (e : Edge) → PassedEdges edges u v total items i → i < length items → e ≡ get_or items i e
    → (LeadsOn edges v total e → ⊥) → PassedEdges edges u v total items (i + 1)
passed_edge edges u v total items i e passed within read not_on = record {
  items_are = passed.items_are;
  graph = passed.graph;
  total_is = passed.total_is;
  none = λ k d less leads. elim (cases k less) [
    | inl before ↦ passed.none k d before leads
    | inr here ↦ not_on (subst (LeadsOn edges v total) (ap (λ j. get_or items j d) here ∙ get_or_default items i d e within ∙ sym read) leads)
  ];
} where
  cases : (k : ℕ) → k < i + 1 → (k < i) ⊎ (k ≡ i)
  cases k less = grind arith

-- the edge to a next router leads on
next_leads : (edges : List Edge) (u x v total : ℕ) → cost edges u v ≡ Some total → (next : IsNext edges u x v) → LeadsOn edges v total next.edge
next_leads edges u x v total total_is next =
    let walk : Walk edges next.edge.to v next.onward = subst (λ y. Walk edges y v next.onward) (sym next.ends) next.rest in
    let rest = least_of_walk edges next.edge.to v next.onward walk in
    let whole : Walk edges u v (next.edge.cost + rest.0) = subst (λ y. Walk edges y v (next.edge.cost + rest.0)) next.begins (step next.edge v rest.0 next.there (walk_of edges next.edge.to v rest.0 rest.1)) in
    let least = least_of_walk edges u v (next.edge.cost + rest.0) whole in
    let is : least.0 ≡ total = same_Some _ _ (sym least.1 ∙ total_is) in
    let sum : next.edge.cost + next.onward ≡ total = same_Some _ _ (sym next.shortest ∙ total_is) in
    (rest.0, rest.1, omega (arith, rest.2, least.2, is, sum))

among : (edges : List Edge) (u x v : ℕ) (items : List Edge) → items ≡ edges_from u edges → (next : IsNext edges u x v) → Contains items next.edge
among edges u x v items are next = subst (λ es. Contains es next.edge) (sym are) (filter_member (λ (e : Edge). e.from == u) edges next.edge next.there (eq-eqb next.edge.from u next.begins))

numbers-before : (a b c d e f : ℕ) → (nat_lt a d || a == d && (nat_lt b e || b == e && nat_lt c f)) ≡ true → a ≡ d → b ≤ e
numbers-before a b c d e f before same = grind (arith, nat_tests)

before-ends : (a b : Edge) → is_edge_before a b ≡ true → a.from ≡ b.from → a.to ≤ b.to
before-ends a b before same = numbers-before a.from a.to a.cost b.from b.to b.cost before same

pub found_next : (edges : List Edge) (u v total : ℕ) (items : List Edge) (i : ℕ) (e : Edge) → PassedEdges edges u v total items i → i < length items → e ≡ get_or items i e → LeadsOn edges v total e
    → IsLeastNext edges u e.to v
found_next edges u v total items i e passed within read leads = record {
  next = record {
    edge = e;
    there = inside.0;
    begins = begins;
    ends = refl;
    onward = leads.0;
    rest = walk_of edges e.to v leads.0 leads.1;
    shortest = passed.total_is ∙ ap Some (sym leads.2);
  };
  least = λ x next. at_place x next (among edges u x v items passed.items_are next);
} where
  inside : Contains edges e × ((e.from == u) ≡ true)
  inside = member_of_filter (λ (a : Edge). a.from == u) edges e (subst (λ es. Contains es e) passed.items_are (i, within, sym read))

  begins : e.from ≡ u
  begins = eqb-true e.from u inside.1

  rising : AllPairs (λ a b. IsTrue (is_edge_before a b)) items
  rising = subst (AllPairs (λ a b. IsTrue (is_edge_before a b))) (sym passed.items_are) (AllPairs-filter (λ a b. IsTrue (is_edge_before a b)) (λ (a : Edge). a.from == u) edges passed.graph.rising)

  at_place : (x : ℕ) (next : IsNext edges u x v) → Contains items next.edge → e.to ≤ x
  at_place x next member = elim (places member.0 i) [
    | inl before ↦ absurd (passed.none member.0 next.edge before (subst (LeadsOn edges v total) (sym member.2) (next_leads edges u x v total passed.total_is next)))
    | inr (inl here) ↦
        let same : next.edge ≡ e = sym member.2 ∙ ap (λ j. get_or items j next.edge) here ∙ get_or_default items i next.edge e within ∙ sym read in
        let ends : e.to ≡ x = ap (λ (a : Edge). a.to) (sym same) ∙ next.ends in
        omega (arith, ends)
    | inr (inr later) ↦
        let before = subst (λ a. is_edge_before a next.edge ≡ true) (get_or_default items i next.edge e within ∙ sym read) (subst (λ b. is_edge_before (get_or items i next.edge) b ≡ true) member.2 (rising i member.0 next.edge later member.1)) in
        let low = before-ends e next.edge before (begins ∙ sym next.begins) in
        omega (arith, low, next.ends)
  ]

pub no_next : (edges : List Edge) (u v total : ℕ) (items : List Edge) (i : ℕ) → PassedEdges edges u v total items i → length items ≤ i → (w : ℕ) → IsNext edges u w v → ⊥
no_next edges u v total items i passed all w next =
    let member = among edges u w v items passed.items_are next in
    passed.none member.0 next.edge (omega (arith, member.1, all)) (subst (LeadsOn edges v total) (sym member.2) (next_leads edges u w v total passed.total_is next))

-- ---- the path

-- what is left of a way
abbrev pub cost_left : Option ℕ → ℕ
cost_left None = 0
cost_left (Some n) = n

pub next_reached : (edges : List Edge) (u w v : ℕ) → IsNext edges u w v → IsSome (cost edges w v)
next_reached edges u w v next = let rest = least_of_walk edges w v next.onward next.rest in ap is_some rest.1

pub next_smaller : (edges : List Edge) (u w v : ℕ) → ((edge : Edge) → IsFreeTo edges v edge → ⊥) → IsNext edges u w v → cost_left (cost edges w v) < cost_left (cost edges u v)
next_smaller edges u w v positive next =
    let rest = least_of_walk edges w v next.onward next.rest in
    let some = costs_more next.edge.cost refl in
    rw (rest.1, next.shortest) (omega (arith, rest.2, some)) where
      begins : IsSome (cost edges next.edge.from v)
      begins = rw (next.begins, next.shortest) refl

      costs_more : (n : ℕ) → next.edge.cost ≡ n → 0 < next.edge.cost
      costs_more zero is = absurd (positive next.edge (record { there = next.there; begins = begins; free = is }))
      costs_more (suc n) is = omega (arith, is)

pub path_goes_on : (edges : List Edge) (router at next v : ℕ) (path more : List ℕ) → IsLeastNext edges at next v
    → ((routers : List ℕ) → IsPath edges v at (at ∷ routers) → IsPath edges v router (path ++ routers)) → more ≡ path ++ next ∷ []
    → (routers : List ℕ) → IsPath edges v next (next ∷ routers) → IsPath edges v router (more ++ routers)
path_goes_on edges router at next v path more least so_far more_is routers rest =
    subst (IsPath edges v router) (sym (ap (λ (l : List ℕ). l ++ routers) more_is ∙ append_assoc path (next ∷ []) routers)) (so_far (next ∷ routers) (onward at next (next ∷ routers) least rest))

pub path_ends : (edges : List Edge) (router at v : ℕ) (path : List ℕ) → IsSome (cost edges at v) → ((w : ℕ) → IsNext edges at w v → ⊥)
    → ((routers : List ℕ) → IsPath edges v at (at ∷ routers) → IsPath edges v router (path ++ routers)) → IsPath edges v router path
path_ends edges router at v path reached none so_far =
    let is = cost_of_some (cost edges at v) reached in
    elim (next_of (walk_of edges at v is.0 is.1) is.1) [
      | inl same ↦ subst (IsPath edges v router) (append-nil path) (so_far [] (subst (λ u. IsPath edges v u (u ∷ [])) (sym same) arrived))
      | inr next ↦ absurd (none next.0 next.1)
    ]

-- ---- the edges one after another

pub took_edge : (edges items more : List Edge) (n : ℕ) (e : Edge) → items ≡ take (length items) edges → n ≡ length items → Some e ≡ slice_get edges n → more ≡ items ++ e ∷ [] → more ≡ take (length more) edges
took_edge edges items more n e before n_is read more_is =
    let at : slice_get edges (length items) ≡ Some e = ap (slice_get edges) (sym n_is) ∙ sym read in
    let within = slice_get_within edges (length items) e at in
    let len : length more ≡ length items + 1 = ap length more_is ∙ length-append items (e ∷ []) in
    more_is ∙ ap (λ (l : List Edge). l ++ e ∷ []) before
    ∙ sym (take_more edges (length items) e within ∙ ap (λ (x : Edge). take (length items) edges ++ x ∷ []) (get_or_from_slice_get edges (length items) e e at)) ∙ ap (λ k. take k edges) (sym len)

pub past : {X : Type 0} (xs : List X) (n : ℕ) → None ≡ slice_get xs n → length xs ≤ n
past xs n none = elim (slice_get_cases xs n).1 [
  | inl found ↦ absurd (none-some _ (none ∙ found.2))
  | inr beyond ↦ beyond.0
]

pub took_all : (edges items : List Edge) (n : ℕ) → items ≡ take (length items) edges → n ≡ length items → None ≡ slice_get edges n → items ≡ edges
took_all edges items n before n_is none = before ∙ take_all (length items) edges (let all = past edges n none in omega (arith, all, n_is))

-- ---- routers of slots

pub router-get : (members : List Member) (slot : ℕ) → router_at members slot ≡ option_map (λ (m : Member). m.router) (slice_get members slot)
router-get [] slot = refl
router-get (m ∷ members) zero = refl
router-get (m ∷ members) (suc slot) = router-get members slot

pub none_more : (P : ℕ → Type 0) (place : ℕ) → ((k : ℕ) → k < place → P k → ⊥) → (P place → ⊥) → (k : ℕ) → k < place + 1 → P k → ⊥
none_more P place before here k less is = elim (cases k less) [ inl earlier ↦ before k earlier is | inr same ↦ here (subst P same is) ] where
  cases : (k : ℕ) → k < place + 1 → (k < place) ⊎ (k ≡ place)
  cases k less = grind arith
