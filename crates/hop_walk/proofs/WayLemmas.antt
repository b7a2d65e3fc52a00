-- Shortest paths: what their parts cost, and which routers they have.
use Rattle.std.proofs.Common.{◌≡◌, ◌≢◌, ℕ, zero, suc, ◌+◌, ◌<◌, true, ◌⊎◌, List, [], Contains, Option, Some, None, IsSome, refl, sym, ap, subst, ◌∙◌, inl, inr, arith}
use Rattle.std.proofs.lemmas.Option.{same_Some}
use Rattle.std.proofs.lemmas.Bool.{false≢true}
use Rattle.rcp_base.specs.declared.names.Edge.{Edge}
use Rattle.rcp_model.specs.Costs.{Walk, stay, step, IsTwoWay, cost, is_reached}
use Rattle.rcp_model.proofs.WalkLemmas.{Walk-then, Walk-edge, cost-itself, reached_equivalence}
use Rattle.rcp_model.proofs.MemberLemmas.{Contains-cases, Contains-none}
use Rattle.cost_rows.proofs.BoundLemmas.{walk_of, least_of_walk}
use Rattle.hop_walk.specs.Hops.{IsOnTheWay, IsNext, IsPath, arrived, onward, ArePositive}

-- ---- costs and walks

pub cost_of_some : (o : Option ℕ) → IsSome o → (c : ℕ) × (o ≡ Some c)
cost_of_some None some = absurd (false≢true some)
cost_of_some (Some c) some = (c, refl)

-- what the parts of a shortest path cost
pub record Parts (edges : List Edge) (u w v : ℕ) : Type 0 where
  pub m : ℕ
  pub n : ℕ
  pub first : cost edges u w ≡ Some m
  pub second : cost edges w v ≡ Some n
  pub whole : cost edges u v ≡ Some (m + n)

pub parts_of : (edges : List Edge) (u w v : ℕ) → IsOnTheWay edges u w v → Parts edges u w v
parts_of edges u w v way =
    let first = least_of_walk edges u w way.so_far way.first in
    let second = least_of_walk edges w v way.onward way.second in
    let whole = least_of_walk edges u v (first.0 + second.0) (Walk-then (walk_of edges u w first.0 first.1) (walk_of edges w v second.0 second.1)) in
    let same : whole.0 ≡ way.so_far + way.onward = same_Some _ _ (sym whole.1 ∙ way.shortest) in
    let sum : whole.0 ≡ first.0 + second.0 = omega (arith, first.2, second.2, whole.2, same) in
    record { m = first.0; n = second.0; first = first.1; second = second.1; whole = whole.1 ∙ ap Some sum }

pub way_of_parts : (edges : List Edge) (u w v : ℕ) → Parts edges u w v → IsOnTheWay edges u w v
way_of_parts edges u w v parts = record {
  so_far = parts.m;
  onward = parts.n;
  first = walk_of edges u w parts.m parts.first;
  second = walk_of edges w v parts.n parts.second;
  shortest = parts.whole;
}

-- ---- partitions

pub reach-same : (edges : List Edge) → IsTwoWay edges → (u w : ℕ) → is_reached edges u w ≡ true → (x : ℕ) → is_reached edges u x ≡ is_reached edges w x
reach-same edges both u w reached x = (reached_equivalence edges both).congr u w x reached

pub reach-turned : (edges : List Edge) → IsTwoWay edges → (u w : ℕ) → is_reached edges u w ≡ is_reached edges w u
reach-turned edges both u w = (reached_equivalence edges both).symm u w

-- a walk within a partition of positive edges costs something
pub positive_walk : {edges : List Edge} {w v sum : ℕ} (u : ℕ) → ArePositive edges u → Walk edges w v sum → is_reached edges u w ≡ true → w ≢ v → 0 < sum
positive_walk u positive (stay w) reached other = absurd (other refl)
positive_walk {edges} u positive (step edge v rest there walk) reached other = more edge.cost refl where
  more : (n : ℕ) → edge.cost ≡ n → 0 < edge.cost + rest
  more zero is = absurd (positive edge (record { there = there; begins = reached; free = is }))
  more (suc n) is = omega (arith, is)

-- ---- paths

pub next-way : (edges : List Edge) (u w v : ℕ) → IsNext edges u w v → IsOnTheWay edges u w v
next-way edges u w v next = record {
  so_far = next.edge.cost;
  onward = next.onward;
  first = subst (λ x. Walk edges u x next.edge.cost) next.ends (subst (λ x. Walk edges x next.edge.to next.edge.cost) next.begins (Walk-edge edges next.edge next.there));
  second = next.rest;
  shortest = next.shortest;
}

-- what is on the way from a router on the way is on the way
pub way-then : (edges : List Edge) (u w x v : ℕ) → IsOnTheWay edges u w v → IsOnTheWay edges w x v → IsOnTheWay edges u x v
way-then edges u w x v first second =
    let a = parts_of edges u w v first in
    let b = parts_of edges w x v second in
    let same : a.n ≡ b.m + b.n = same_Some _ _ (sym a.second ∙ b.whole) in
    record {
      so_far = a.m + b.m;
      onward = b.n;
      first = Walk-then (walk_of edges u w a.m a.first) (walk_of edges w x b.m b.first);
      second = walk_of edges x v b.n b.second;
      shortest = a.whole ∙ ap Some (omega (arith, same));
    }

pub itself-way : (edges : List Edge) (u v c : ℕ) → Walk edges u v c → cost edges u v ≡ Some c → IsOnTheWay edges u u v
itself-way edges u v c walk is = record { so_far = 0; onward = c; first = stay u; second = walk; shortest = is ∙ ap Some (omega arith) }

-- there is a router next after each but the last
pub next_of : {edges : List Edge} {u v c : ℕ} → Walk edges u v c → cost edges u v ≡ Some c → (u ≡ v) ⊎ ((w : ℕ) × IsNext edges u w v)
next_of (stay u) is = inl refl
next_of (step edge v rest there walk) is =
    inr (edge.to, record { edge = edge; there = there; begins = refl; ends = refl; onward = rest; rest = walk; shortest = is })

-- each router of a path is on the way
pub path-way : (edges : List Edge) (v : ℕ) {u : ℕ} {path : List ℕ} → IsPath edges v u path → (w : ℕ) → Contains path w → IsOnTheWay edges u w v
path-way edges v arrived w member = at_place (Contains-cases v [] w member) where
  at_place : (v ≡ w) ⊎ Contains [] w → IsOnTheWay edges v w v
  at_place (inl same) = subst (λ x. IsOnTheWay edges v x v) same (itself-way edges v v 0 (stay v) (cost-itself edges v))
  at_place (inr none) = absurd (Contains-none w none)
path-way edges v (onward u next routers is path) w member = at_place (Contains-cases u routers w member) (path-way edges v path w) where
  whole : IsOnTheWay edges u next v
  whole = next-way edges u next v is.next

  at_place : (u ≡ w) ⊎ Contains routers w → (Contains routers w → IsOnTheWay edges next w v) → IsOnTheWay edges u w v
  at_place (inl same) rest =
      let cost_is = parts_of edges u next v whole in
      subst (λ x. IsOnTheWay edges u x v) same (itself-way edges u v (cost_is.m + cost_is.n) (walk_of edges u v (cost_is.m + cost_is.n) cost_is.whole) cost_is.whole)
  at_place (inr later) rest = way-then edges u next w v whole (rest later)
