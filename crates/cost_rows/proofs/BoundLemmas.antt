-- The costs over a graph are low: on the way to a router there is one router for each 65,535 of its cost.
use Rattle.std.proofs.Common.{◌≡◌, ◌≢◌, ℕ, zero, suc, ◌+◌, ◌*◌, ◌-◌, ◌/◌, ◌^◌, ◌<◌, ◌≤◌, ◌⊎◌, List, [], ◌∷◌, length, AllPairs, Contains, Option, Some, None, IfSome, refl, sym, subst, ◌∙◌, inl, inr, arith}
use Rattle.std.proofs.lemmas.Option.{same_Some}
use Rattle.std.proofs.lemmas.List.Elements.{All-contains}
use Rattle.std.proofs.lemmas.List.Kept.{AllPairs-cons}
use Rattle.rcp_model.proofs.MemberLemmas.{Contains-head, Contains-tail, Contains-cases, Contains-none}
use Rattle.rcp_model.proofs.GraphLemmas.{All-from_members, apart_within, routers_at}
use Rattle.rcp_model.proofs.WalkLemmas.{Walk-then, Walk-edge, cost_is, cost-itself}
use Rattle.rcp_base.specs.declared.names.Edge.{Edge}
use Rattle.rcp_model.specs.Costs.{Walk, stay, step, IsCost, cost}
use Rattle.rcp_model.specs.Graphs.{IsGraph, routers_in}

pub walk_of : (edges : List Edge) (u v n : ℕ) → cost edges u v ≡ Some n → Walk edges u v n
walk_of edges u v n is = (subst (IsCost edges u v) is (cost_is edges u v)).0

pub least_of_walk : (edges : List Edge) (u v sum : ℕ) → Walk edges u v sum → (n : ℕ) × (cost edges u v ≡ Some n) × (n ≤ sum)
least_of_walk edges u v sum walk = at_cost (cost edges u v) refl (cost_is edges u v) where
  at_cost : (o : Option ℕ) → cost edges u v ≡ o → IsCost edges u v o → (n : ℕ) × (cost edges u v ≡ Some n) × (n ≤ sum)
  at_cost None is none = absurd (none sum walk)
  at_cost (Some n) is least = (n, is, least.1 sum walk)

le_cases : (m n : ℕ) → (m ≤ n) ⊎ (n < m)
le_cases m n = grind arith

-- a walk ends where it begins, or at the end of an edge
walk_end : {edges : List Edge} {x w sum : ℕ} → Walk edges x w sum → (x ≡ w) ⊎ Contains (routers_in edges) w
walk_end (stay x) = inl refl
walk_end {edges} (step edge w sum member rest) = elim (walk_end rest) [
  | inl same ↦ inr (subst (Contains (routers_in edges)) same (routers_at edges edge member).1)
  | inr named ↦ inr named
]

module _ (edges : List Edge) (u : ℕ) (cheap : (edge : Edge) → Contains edges edge → edge.cost ≤ 65535) where
  -- a router whose cost is at most t, and not far below it
  record Crossing (t : ℕ) : Type 0 where
    router : ℕ
    low_cost : ℕ
    is : cost edges u router ≡ Some low_cost
    low : low_cost ≤ t
    near : t < low_cost + 65535

  crossing : {w v sum : ℕ} → Walk edges w v sum → (a n t : ℕ) → cost edges u w ≡ Some a → a ≤ t → cost edges u v ≡ Some n → t ≤ n → Crossing t
  crossing (stay w) a n t at le end within =
      let same : a ≡ n = same_Some a n (sym at ∙ end) in
      record { router = w; low_cost = a; is = at; low = le; near = omega arith }
  crossing (step edge v sum member rest) a n t at le end within =
      let next = least_of_walk edges u edge.to (a + edge.cost) (Walk-then (walk_of edges u edge.from a at) (Walk-edge edges edge member)) in
      elim (le_cases next.0 t) [
        | inl lower ↦ crossing rest next.0 n t next.1 lower end within
        | inr higher ↦ let c = cheap edge member in let h = next.2 in record { router = edge.from; low_cost = a; is = at; low = le; near = omega arith }
      ]

  -- routers whose costs are at most k times the highest cost of an edge
  record Levels (k : ℕ) : Type 0 where
    routers : List ℕ
    count : length routers ≡ k + 1
    apart : AllPairs (λ a b. a ≢ b) routers
    low : (w : ℕ) → Contains routers w → (a : ℕ) × (cost edges u w ≡ Some a) × (a ≤ 65535 * k)

  levels : (v n : ℕ) → cost edges u v ≡ Some n → (k : ℕ) → 65535 * k ≤ n → Levels k
  levels v n at zero le = record {
    routers = u ∷ [];
    count = refl;
    apart = λ i j d less within. absurd (omega arith);
    low = λ w member. elim (Contains-cases u [] w member) [
      | inl same ↦ subst (λ w. (a : ℕ) × (cost edges u w ≡ Some a) × (a ≤ 65535 * 0)) same (0, cost-itself edges u, omega arith)
      | inr none ↦ absurd (Contains-none w none)
    ];
  }
  levels v n at (suc k) le =
      let before = levels v n at k (omega arith) in
      let cross = crossing (walk_of edges u v n at) 0 n (65535 * suc k) (cost-itself edges u) (omega arith) at le in
      record {
        routers = cross.router ∷ before.routers;
        count = let c = before.count in omega arith;
        apart = AllPairs-cons (λ a b. a ≢ b) cross.router before.routers (All-from_members (λ b. cross.router ≢ b) before.routers (λ b member same. farther cross (before.low b member) same)) before.apart;
        low = λ w member. elim (Contains-cases cross.router before.routers w member) [
          | inl same ↦ subst (λ w. (a : ℕ) × (cost edges u w ≡ Some a) × (a ≤ 65535 * suc k)) same (cross.low_cost, cross.is, cross.low)
          | inr later ↦ let found = before.low w later in (found.0, found.1, (let h = found.2 in omega arith))
        ];
      } where
        farther : {b : ℕ} (cross : Crossing (65535 * suc k)) → (a : ℕ) × (cost edges u b ≡ Some a) × (a ≤ 65535 * k) → cross.router ≡ b → ⊥
        farther {b} cross found same =
            let equal : cross.low_cost ≡ found.0 = same_Some cross.low_cost found.0 (sym cross.is ∙ subst (λ w. cost edges u w ≡ Some found.0) (sym same) found.1) in
            let near = cross.near in let h = found.2 in omega arith

pub cost_bound : (edges : List Edge) (u v n : ℕ) → ((edge : Edge) → Contains edges edge → edge.cost ≤ 65535) → cost edges u v ≡ Some n → n < 65535 * (length (routers_in edges) + 1)
cost_bound edges u v n cheap at =
    let k = n / 65535 in
    let all = levels edges u cheap v n at k (omega arith) in
    let within = apart_within all.routers (u ∷ routers_in edges) all.apart (λ w member. named w (walk_end (walk_of edges u w (all.low w member).0 (all.low w member).1))) in
    let count = all.count in
    omega arith where
      named : (w : ℕ) → (u ≡ w) ⊎ Contains (routers_in edges) w → Contains (u ∷ routers_in edges) w
      named w cases = elim cases [ inl same ↦ subst (Contains (u ∷ routers_in edges)) same (Contains-head u (routers_in edges)) | inr later ↦ Contains-tail u (routers_in edges) w later ]

-- they fit four octets, and leave one number for none
pub cost_low : (edges : List Edge) → IsGraph edges → (u v : ℕ) → IfSome (cost edges u v) (λ n. n < 2 ^ 32 - 1)
cost_low edges graph u v = at_cost (cost edges u v) refl where
  at_cost : (o : Option ℕ) → cost edges u v ≡ o → IfSome o (λ n. n < 2 ^ 32 - 1)
  at_cost None is = tt
  at_cost (Some n) is =
      let bound = cost_bound edges u v n (λ edge member. All-contains (λ (edge : Edge). edge.cost ≤ 65535) edges edge graph.cheap member) is in
      let few = graph.few in
      omega arith
