-- Costs in a partition with the same least costs of edges in two networks.
use Rattle.std.proofs.Common.{◌≡◌, ℕ, ◌+◌, ◌≤◌, ◌<◌, Bool, true, false, cond, ◌&&◌, ◌==◌, ◌⊎◌, List, [], ◌∷◌, min, Contains, Option, Some, None, IsSomeAnd, refl, sym, ap, subst, ◌∙◌, inl, inr, arith, eqb, eq-eqb, eqb-true}
use Rattle.std.proofs.lemmas.Bool.{false≢true}
use Rattle.std.proofs.lemmas.Option.{same_Some, none-some}
use Rattle.rcp_base.specs.declared.names.Edge.{Edge}
use Rattle.rcp_model.specs.Costs.{Walk, stay, step, lesser, edge_cost, cost, is_reached}
use Rattle.rcp_model.proofs.MemberLemmas.{Contains-head, Contains-tail, Contains-cases, Contains-none}
use Rattle.rcp_model.proofs.WalkLemmas.{Walk-then, Walk-edge, reached_is_walk}
use Rattle.cost_rows.proofs.BoundLemmas.{walk_of, least_of_walk}

-- ---- the least cost of an edge

pub record IsLink (edges : List Edge) (u v m : ℕ) : Type 0 where
  pub edge : Edge
  pub there : Contains edges edge
  pub begins : edge.from ≡ u
  pub ends : edge.to ≡ v
  pub costs : edge.cost ≡ m

later : (edge : Edge) (edges : List Edge) (u v m : ℕ) → IsLink edges u v m → IsLink (edge ∷ edges) u v m
later edge edges u v m link = record {
  edge = link.edge;
  there = Contains-tail edge edges link.edge link.there;
  begins = link.begins;
  ends = link.ends;
  costs = link.costs;
}

min_cases : (a b m : ℕ) → min a b ≡ m → (a ≡ m) ⊎ (b ≡ m)
min_cases a b m is = grind arith

-- it is the cost of some edge
pub edge_cost_there : (edges : List Edge) (u v m : ℕ) → edge_cost edges u v ≡ Some m → IsLink edges u v m
edge_cost_there [] u v m is = absurd (none-some _ is)
edge_cost_there (edge ∷ edges) u v m is =
    at_tests (eqb edge.from u) (eqb edge.to v) (eqb-true edge.from u) (eqb-true edge.to v) (λ k some. edge_cost_there edges u v k some) is where
      here : edge.from ≡ u → edge.to ≡ v → edge.cost ≡ m → IsLink (edge ∷ edges) u v m
      here from to costs = record { edge = edge; there = Contains-head edge edges; begins = from; ends = to; costs = costs }

      at_lesser : (o : Option ℕ) → edge_cost edges u v ≡ o → ((k : ℕ) → edge_cost edges u v ≡ Some k → IsLink edges u v k) → edge.from ≡ u → edge.to ≡ v → lesser (Some edge.cost) o ≡ Some m
          → IsLink (edge ∷ edges) u v m
      at_lesser None none rest from to is = here from to (same_Some _ _ is)
      at_lesser (Some k) some rest from to is = elim (min_cases edge.cost k m (same_Some _ _ is)) [
        | inl same ↦ here from to same
        | inr same ↦ later edge edges u v m (rest m (some ∙ ap Some same))
      ]

      at_tests : (s t : Bool) → (s ≡ true → edge.from ≡ u) → (t ≡ true → edge.to ≡ v) → ((k : ℕ) → edge_cost edges u v ≡ Some k → IsLink edges u v k)
          → cond (s && t) (lesser (Some edge.cost) (edge_cost edges u v)) (edge_cost edges u v) ≡ Some m → IsLink (edge ∷ edges) u v m
      at_tests true true from to rest is = at_lesser (edge_cost edges u v) refl rest (from refl) (to refl) is
      at_tests true false from to rest is = later edge edges u v m (rest m is)
      at_tests false t from to rest is = later edge edges u v m (rest m is)

lesser_first : (a : ℕ) (o : Option ℕ) → IsSomeAnd (lesser (Some a) o) (λ m. m ≤ a)
lesser_first a None = omega arith
lesser_first a (Some b) = omega arith

lesser_second : (a n : ℕ) (o : Option ℕ) → IsSomeAnd o (λ m. m ≤ n) → IsSomeAnd (lesser (Some a) o) (λ m. m ≤ n)
lesser_second a n None low = absurd low
lesser_second a n (Some b) low = omega (arith, low)

-- no edge costs less
pub edge_cost_low : (edges : List Edge) (edge : Edge) → Contains edges edge → IsSomeAnd (edge_cost edges edge.from edge.to) (λ m. m ≤ edge.cost)
edge_cost_low [] edge member = absurd (Contains-none edge member)
edge_cost_low (other ∷ edges) edge member = elim (Contains-cases other edges edge member) [
  | inl same ↦ subst (λ (e : Edge). IsSomeAnd (edge_cost (other ∷ edges) e.from e.to) (λ m. m ≤ e.cost)) same
      (rw (eq-eqb other.from other.from refl, eq-eqb other.to other.to refl) (lesser_first other.cost (edge_cost edges other.from other.to)))
  | inr rest ↦ at_test (eqb other.from edge.from && eqb other.to edge.to) (edge_cost_low edges edge rest)
] where
  at_test : (t : Bool) → IsSomeAnd (edge_cost edges edge.from edge.to) (λ m. m ≤ edge.cost)
      → IsSomeAnd (cond t (lesser (Some other.cost) (edge_cost edges edge.from edge.to)) (edge_cost edges edge.from edge.to)) (λ m. m ≤ edge.cost)
  at_test true low = lesser_second other.cost edge.cost (edge_cost edges edge.from edge.to) low
  at_test false low = low

-- ---- walks that stay in a partition

-- the least costs of edges between routers of the partition of l are the same
abbrev pub HaveSameEdges : List Edge → List Edge → ℕ → Type 0
HaveSameEdges edges others l = (u v : ℕ) → is_reached edges l u ≡ true → is_reached edges l v ≡ true → edge_cost edges u v ≡ edge_cost others u v

pub reached_on : (edges : List Edge) (l u v sum : ℕ) → is_reached edges l u ≡ true → Walk edges u v sum → is_reached edges l v ≡ true
reached_on edges l u v sum reached walk =
    let before = (reached_is_walk edges l u).0 reached in
    (reached_is_walk edges l v).1 (before.0 + sum, Walk-then before.1 walk)

record Cheaper (edges : List Edge) (u v sum : ℕ) : Type 0 where
  total : ℕ
  walk : Walk edges u v total
  low : total ≤ sum

some_low : (o : Option ℕ) (n : ℕ) → IsSomeAnd o (λ m. m ≤ n) → (m : ℕ) × (o ≡ Some m) × (m ≤ n)
some_low None n low = absurd low
some_low (Some m) n low = (m, refl, low)

pub link_walk : (edges : List Edge) (u v m : ℕ) → IsLink edges u v m → Walk edges u v m
link_walk edges u v m link =
    subst (λ c. Walk edges u v c) link.costs (subst (λ t. Walk edges u t link.edge.cost) link.ends (subst (λ f. Walk edges f link.edge.to link.edge.cost) link.begins (Walk-edge edges link.edge link.there)))

walk_alike : {edges : List Edge} {u v sum : ℕ} (others : List Edge) (l : ℕ) → HaveSameEdges edges others l → is_reached edges l u ≡ true → Walk edges u v sum → Cheaper others u v sum
walk_alike others l same reached (stay u) = record { total = 0; walk = stay u; low = omega arith }
walk_alike {edges} others l same reached (step edge v sum there rest) =
    let inside = reached_on edges l edge.from edge.to edge.cost reached (Walk-edge edges edge there) in
    let low = some_low (edge_cost edges edge.from edge.to) edge.cost (edge_cost_low edges edge there) in
    let link = edge_cost_there others edge.from edge.to low.0 (sym (same edge.from edge.to reached inside) ∙ low.1) in
    let onward = walk_alike others l same inside rest in
    record {
      total = low.0 + onward.total;
      walk = Walk-then (link_walk others edge.from edge.to low.0 link) onward.walk;
      low = omega (arith, low.2, onward.low);
    }

both_low : (a b : Option ℕ) → ((n : ℕ) → a ≡ Some n → IsSomeAnd b (λ m. m ≤ n)) → ((n : ℕ) → b ≡ Some n → IsSomeAnd a (λ m. m ≤ n)) → a ≡ b
both_low None None first second = refl
both_low None (Some n) first second = absurd (second n refl)
both_low (Some m) None first second = absurd (first m refl)
both_low (Some m) (Some n) first second = let low = first m refl in let high = second n refl in ap Some (omega (arith, low, high))

cost_low : (edges others : List Edge) (l u v n : ℕ) → HaveSameEdges edges others l → is_reached edges l u ≡ true → cost edges u v ≡ Some n → IsSomeAnd (cost others u v) (λ m. m ≤ n)
cost_low edges others l u v n same reached is =
    let found = walk_alike others l same reached (walk_of edges u v n is) in
    let least = least_of_walk others u v found.total found.walk in
    rw least.1 (omega (arith, least.2, found.low))

-- so the costs from each of its routers are the same
pub cost_alike : (edges others : List Edge) (l u v : ℕ) → HaveSameEdges edges others l → HaveSameEdges others edges l → is_reached edges l u ≡ true → is_reached others l u ≡ true → cost edges u v ≡ cost others u v
cost_alike edges others l u v same back reached there =
    both_low (cost edges u v) (cost others u v) (λ n is. cost_low edges others l u v n same reached is) (λ n is. cost_low others edges l u v n back there is)
