-- Interior costs: the computed cost is the least sum over all walks.
use Rattle.std.proofs.Common.{◌≡◌, ℕ, ◌+◌, ◌≤◌, Bool, true, false, cond, ◌&&◌, ◌||◌, ◌==◌, eqb, ◌⊎◌, List, [], ◌∷◌, Contains, Option, Some, None, IsSomeAnd, IfSome, is_some, min, ◌↔◌, refl, sym, ap, subst, inl, inr, add_assoc, zero-add, add-zero, le_antisymm, arith, eqb-true, eq-eqb}
use Rattle.std.specs.List.{list_any}
use Rattle.std.proofs.lemmas.Bool.{false≢true}
use Rattle.std.specs.Cmp.{IsEquivalence, equiv, both_ways}
use Rattle.rcp_model.proofs.MemberLemmas.{Contains-head, Contains-tail, Contains-cases}
use Rattle.rcp_base.specs.declared.names.Edge.{Edge}
use Rattle.rcp_model.specs.Costs.{Walk, stay, step, IsCost, lesser, joined, edge_cost, cost_through, entered, cost, is_reached, IsTwoWay}

-- ---- some cost of at most a number

abbrev pub Within : Option ℕ → ℕ → Type 0
Within o n = IsSomeAnd o (λ m. m ≤ n)

Within-more : (a : Option ℕ) (m n : ℕ) → Within a m → m ≤ n → Within a n
Within-more None m n h le = h
Within-more (Some k) m n h le = omega arith

some_within : (a : Option ℕ) (n : ℕ) → Within a n → (m : ℕ) × (a ≡ Some m) × (m ≤ n)
some_within None n h = absurd h
some_within (Some m) n h = (m, refl, h)

Within-cond : (b : Bool) (x y : Option ℕ) (n : ℕ) → Within x n → Within y n → Within (cond b x y) n
Within-cond true x y n h k = h
Within-cond false x y n h k = k

Within-lesser_left : (a b : Option ℕ) (n : ℕ) → Within a n → Within (lesser a b) n
Within-lesser_left None b n h = absurd h
Within-lesser_left (Some a) None n h = h
Within-lesser_left (Some a) (Some b) n h = omega arith

Within-lesser_right : (a b : Option ℕ) (n : ℕ) → Within b n → Within (lesser a b) n
Within-lesser_right None b n h = h
Within-lesser_right (Some a) None n h = absurd h
Within-lesser_right (Some a) (Some b) n h = omega arith

Within-joined : (a b : Option ℕ) (m n : ℕ) → Within a m → Within b n → Within (joined a b) (m + n)
Within-joined None b m n h k = absurd h
Within-joined (Some a) None m n h k = absurd k
Within-joined (Some a) (Some b) m n h k = omega arith

-- the two parts of a cost
record Parts (a b : Option ℕ) (n : ℕ) : Type 0 where
  m : ℕ
  k : ℕ
  first : Within a m
  second : Within b k
  total : m + k ≤ n

Within-cases : (a b c : Option ℕ) (n : ℕ) → Within (lesser a (joined b c)) n → Within a n ⊎ Parts b c n
Within-cases a None c n h = elim a as (λ a. Within (lesser a None) n → Within a n ⊎ Parts None c n) [ None ↦ λ h. absurd h | Some a ↦ λ h. inl h ] h
Within-cases a (Some b) None n h = elim a as (λ a. Within (lesser a None) n → Within a n ⊎ Parts (Some b) None n) [ None ↦ λ h. absurd h | Some a ↦ λ h. inl h ] h
Within-cases None (Some b) (Some c) n h = inr (record { m = b; k = c; first = omega arith; second = omega arith; total = h })
Within-cases (Some a) (Some b) (Some c) n h = either a b c n h where
  either : (a b c n : ℕ) → min a (b + c) ≤ n → (a ≤ n) ⊎ Parts (Some b) (Some c) n
  either a b c n h = let parts : (a ≤ n) ⊎ (b + c ≤ n) = grind arith in
      elim parts [ inl le ↦ inl le | inr le ↦ inr (record { m = b; k = c; first = omega arith; second = omega arith; total = le }) ]

Within-either : (a b : Option ℕ) (n : ℕ) → Within (lesser a (joined a b)) n → Within a n
Within-either a b n h = elim (Within-cases a a b n h) [ inl h ↦ h | inr parts ↦ Within-more a parts.m n parts.first (omega arith) ]

Within-or : (a b : Option ℕ) (n : ℕ) → Within (lesser b (joined a b)) n → Within b n
Within-or a b n h = elim (Within-cases b a b n h) [ inl h ↦ h | inr parts ↦ Within-more b parts.k n parts.second (omega arith) ]

-- ---- walks

pub Walk-then : {edges : List Edge} {u w v m n : ℕ} → Walk edges u w m → Walk edges w v n → Walk edges u v (m + n)
Walk-then (stay u) walk = rw zero-add walk
Walk-then (step edge w sum member rest) walk = rw add_assoc (step edge _ _ member (Walk-then rest walk))

pub Walk-edge : (edges : List Edge) (edge : Edge) → Contains edges edge → Walk edges edge.from edge.to edge.cost
Walk-edge edges edge member = rw add-zero at (step edge edge.to 0 member (stay edge.to))

IfSome-weaker : {P Q : ℕ → Type 0} (o : Option ℕ) → ((n : ℕ) → P n → Q n) → IfSome o P → IfSome o Q
IfSome-weaker None f h = tt
IfSome-weaker (Some n) f h = f n h

IfSome-lesser : (P : ℕ → Type 0) (a b : Option ℕ) → IfSome a P → IfSome b P → IfSome (lesser a b) P
IfSome-lesser P None b h k = k
IfSome-lesser P (Some a) None h k = h
IfSome-lesser P (Some a) (Some b) h k = of_either P a b h k where
  of_either : (P : ℕ → Type 0) (a b : ℕ) → P a → P b → P (min a b)
  of_either P a b h k = let either : (min a b ≡ a) ⊎ (min a b ≡ b) = grind arith in
      elim either [ inl e ↦ subst P (sym e) h | inr e ↦ subst P (sym e) k ]

IfSome-joined : (edges : List Edge) (u w v : ℕ) (a b : Option ℕ) → IfSome a (Walk edges u w) → IfSome b (Walk edges w v) → IfSome (joined a b) (Walk edges u v)
IfSome-joined edges u w v None b h k = tt
IfSome-joined edges u w v (Some a) None h k = tt
IfSome-joined edges u w v (Some a) (Some b) h k = Walk-then h k

-- ---- the least cost of an edge

cheaper_edge : (edges : List Edge) (edge : Edge) (u v : ℕ) (rest : Option ℕ) (p q : Bool) → Contains edges edge → (p ≡ true → edge.from ≡ u) → (q ≡ true → edge.to ≡ v)
    → IfSome rest (Walk edges u v) → IfSome (cond (p && q) (lesser (Some edge.cost) rest) rest) (Walk edges u v)
cheaper_edge edges edge u v rest true true member from to h =
    IfSome-lesser (Walk edges u v) (Some edge.cost) rest (subst (λ x. Walk edges x v edge.cost) (from refl) (subst (λ y. Walk edges edge.from y edge.cost) (to refl) (Walk-edge edges edge member))) h
cheaper_edge edges edge u v rest true false member from to h = h
cheaper_edge edges edge u v rest false q member from to h = h

-- it is the sum of a walk
edge_cost_walk : (edges others : List Edge) (u v : ℕ) → ((edge : Edge) → Contains others edge → Contains edges edge) → IfSome (edge_cost others u v) (Walk edges u v)
edge_cost_walk edges [] u v inside = tt
edge_cost_walk edges (edge ∷ others) u v inside =
    cheaper_edge edges edge u v (edge_cost others u v) (eqb edge.from u) (eqb edge.to v) (inside edge (Contains-head edge others)) (eqb-true edge.from u) (eqb-true edge.to v)
    (edge_cost_walk edges others u v (λ other member. inside other (Contains-tail edge others other member)))

edge_cost_within : (edges : List Edge) (edge : Edge) → Contains edges edge → Within (edge_cost edges edge.from edge.to) edge.cost
edge_cost_within [] edge member = absurd (omega arith)
edge_cost_within (other ∷ edges) edge member = elim (Contains-cases other edges edge member) [
  | inl same ↦ subst (λ (e : Edge). Within (edge_cost (other ∷ edges) e.from e.to) e.cost) same
      (rw (eq-eqb other.from other.from refl, eq-eqb other.to other.to refl) (Within-lesser_left (Some other.cost) (edge_cost edges other.from other.to) other.cost (omega arith)))
  | inr rest ↦ let h = edge_cost_within edges edge rest in
      Within-cond _ _ _ edge.cost (Within-lesser_right (Some other.cost) (edge_cost edges edge.from edge.to) edge.cost h) h
]

-- ---- the cost through some routers

module _ (edges : List Edge) where
  -- it is the sum of a walk
  through_walk : (routers : List ℕ) (u v : ℕ) → IfSome (cost_through edges routers u v) (Walk edges u v)
  unfolding cost_through
  through_walk [] u v = at_once (eqb u v) (eqb-true u v) where
    at_once : (b : Bool) → (b ≡ true → u ≡ v) → IfSome (cond b (Some 0) (edge_cost edges u v)) (Walk edges u v)
    at_once true same = subst (λ x. Walk edges u x 0) (same refl) (stay u)
    at_once false same = edge_cost_walk edges edges u v (λ edge member. member)
  through_walk (w ∷ routers) u v =
      IfSome-lesser (Walk edges u v) (cost_through edges routers u v) (joined (cost_through edges routers u w) (cost_through edges routers w v)) (through_walk routers u v)
      (IfSome-joined edges u w v (cost_through edges routers u w) (cost_through edges routers w v) (through_walk routers u w) (through_walk routers w v))

  through_itself : (routers : List ℕ) (u : ℕ) → Within (cost_through edges routers u u) 0
  unfolding cost_through
  through_itself [] u = rw (eq-eqb u u refl) (omega arith)
  through_itself (w ∷ routers) u = Within-lesser_left (cost_through edges routers u u) (joined (cost_through edges routers u w) (cost_through edges routers w u)) 0 (through_itself routers u)

  through_edge : (routers : List ℕ) (edge : Edge) → Contains edges edge → Within (cost_through edges routers edge.from edge.to) edge.cost
  unfolding cost_through
  through_edge [] edge member = Within-cond (eqb edge.from edge.to) (Some 0) (edge_cost edges edge.from edge.to) edge.cost (omega arith) (edge_cost_within edges edge member)
  through_edge (w ∷ routers) edge member = Within-lesser_left (cost_through edges routers edge.from edge.to) (joined (cost_through edges routers edge.from w) (cost_through edges routers w edge.to)) edge.cost (through_edge routers edge member)

  -- a way over one of them costs no less
  through_router : (routers : List ℕ) (w : ℕ) → Contains routers w → (u v m n : ℕ) → Within (cost_through edges routers u w) m → Within (cost_through edges routers w v) n → Within (cost_through edges routers u v) (m + n)
  unfolding cost_through
  through_router [] w member u v m n h k = absurd (omega arith)
  through_router (x ∷ routers) w member u v m n h k =
      elim (Contains-cases x routers w member) [
        | inl same ↦ Within-lesser_right (cost_through edges routers u v) (joined (cost_through edges routers u x) (cost_through edges routers x v)) (m + n)
            (Within-joined (cost_through edges routers u x) (cost_through edges routers x v) m n
            (Within-either (cost_through edges routers u x) (cost_through edges routers x x) m (subst (λ y. Within (cost_through edges (x ∷ routers) u y) m) (sym same) h))
            (Within-or (cost_through edges routers x x) (cost_through edges routers x v) n (subst (λ y. Within (cost_through edges (x ∷ routers) y v) n) (sym same) k)))
        | inr rest ↦ elim (Within-cases (cost_through edges routers u w) (cost_through edges routers u x) (cost_through edges routers x w) m h) [
          | inl h ↦ elim (Within-cases (cost_through edges routers w v) (cost_through edges routers w x) (cost_through edges routers x v) n k) [
            | inl k ↦ Within-lesser_left (cost_through edges routers u v) (joined (cost_through edges routers u x) (cost_through edges routers x v)) (m + n) (through_router routers w rest u v m n h k)
            | inr k ↦ over u v (m + k.m) k.k (m + n) (through_router routers w rest u x m k.m h k.first) k.second (omega arith)
          ]
          | inr h ↦ elim (Within-cases (cost_through edges routers w v) (cost_through edges routers w x) (cost_through edges routers x v) n k) [
            | inl k ↦ over u v h.m (h.k + n) (m + n) h.first (through_router routers w rest x v h.k n h.second k) (omega arith)
            | inr k ↦ over u v h.m k.k (m + n) h.first k.second (omega arith)
          ]
        ]
      ] where
        over : (u v m k n : ℕ) → Within (cost_through edges routers u x) m → Within (cost_through edges routers x v) k → m + k ≤ n → Within (lesser (cost_through edges routers u v) (joined (cost_through edges routers u x) (cost_through edges routers x v))) n
        over u v m k n h h' le =
            Within-lesser_right (cost_through edges routers u v) (joined (cost_through edges routers u x) (cost_through edges routers x v)) n
            (Within-more (joined (cost_through edges routers u x) (cost_through edges routers x v)) (m + k) n (Within-joined (cost_through edges routers u x) (cost_through edges routers x v) m k h h') le)

-- ---- the routers that an edge enters

Contains-from_any : (n : ℕ) (ns : List ℕ) → list_any (λ m. m == n) ns ≡ true → Contains ns n
Contains-from_any n [] any = absurd (false≢true any)
Contains-from_any n (m ∷ ns) any = at_test (eqb m n) (eqb-true m n) (Contains-from_any n ns) any where
  at_test : (b : Bool) → (b ≡ true → m ≡ n) → (list_any (λ m. m == n) ns ≡ true → Contains ns n) → (b || list_any (λ m. m == n) ns) ≡ true → Contains (m ∷ ns) n
  at_test true same rest any = subst (λ k. Contains (m ∷ ns) k) (same refl) (Contains-head m ns)
  at_test false same rest any = Contains-tail m ns n (rest any)

entered_has : (edges : List Edge) (edge : Edge) → Contains edges edge → Contains (entered edges) edge.to
entered_has [] edge member = absurd (omega arith)
entered_has (other ∷ edges) edge member = at_test (list_any (λ m. m == other.to) (entered edges)) (Contains-from_any other.to (entered edges)) (entered_has edges edge) where
  at_test : (b : Bool) → (b ≡ true → Contains (entered edges) other.to) → (Contains edges edge → Contains (entered edges) edge.to)
      → Contains (cond b (entered edges) (other.to ∷ entered edges)) edge.to
  at_test true has rest = elim (Contains-cases other edges edge member) [
    | inl same ↦ subst (λ (e : Edge). Contains (entered edges) e.to) same (has refl)
    | inr member ↦ rest member
  ]
  at_test false has rest = elim (Contains-cases other edges edge member) [
    | inl same ↦ subst (λ (e : Edge). Contains (other.to ∷ entered edges) e.to) same (Contains-head other.to (entered edges))
    | inr member ↦ Contains-tail other.to (entered edges) edge.to (rest member)
  ]

-- ---- the cost

cost_walk : (edges : List Edge) (u v : ℕ) → IfSome (cost edges u v) (Walk edges u v)
cost_walk edges u v = through_walk edges (entered edges) u v

-- no walk costs less
cost_within : {edges : List Edge} {u v sum : ℕ} → Walk edges u v sum → Within (cost edges u v) sum
cost_within {edges} (stay u) = through_itself edges (entered edges) u
cost_within {edges} (step edge v sum member walk) =
    through_router edges (entered edges) edge.to (entered_has edges edge member) edge.from v edge.cost sum (through_edge edges (entered edges) edge member) (cost_within walk)

IsCost-from_within : (edges : List Edge) (u v : ℕ) (o : Option ℕ) → IfSome o (Walk edges u v) → ((sum : ℕ) → Walk edges u v sum → Within o sum) → IsCost edges u v o
IsCost-from_within edges u v None walk least = least
IsCost-from_within edges u v (Some c) walk least = (walk, least)

pub cost_is : (edges : List Edge) (u v : ℕ) → IsCost edges u v (cost edges u v)
cost_is edges u v = IsCost-from_within edges u v (cost edges u v) (cost_walk edges u v) (λ sum walk. cost_within walk)

-- ---- what follows

-- a router pair has one cost
pub IsCost-unique : (edges : List Edge) (u v : ℕ) (a b : Option ℕ) → IsCost edges u v a → IsCost edges u v b → a ≡ b
IsCost-unique edges u v None None h k = refl
IsCost-unique edges u v None (Some b) h k = absurd (h b k.0)
IsCost-unique edges u v (Some a) None h k = absurd (k a h.0)
IsCost-unique edges u v (Some a) (Some b) h k = ap Some (le_antisymm (h.1 b k.0) (k.1 a h.0))

pub cost-itself : (edges : List Edge) (u : ℕ) → cost edges u u ≡ Some 0
cost-itself edges u = IsCost-unique edges u u (cost edges u u) (Some 0) (cost_is edges u u) (stay u, λ sum walk. omega arith)

-- no more than over a third router
pub cost_over : (edges : List Edge) (u w v m n : ℕ) → cost edges u w ≡ Some m → cost edges w v ≡ Some n → IsSomeAnd (cost edges u v) (λ c. c ≤ m + n)
cost_over edges u w v m n h k =
    cost_within (Walk-then (subst (λ o. IfSome o (Walk edges u w)) h (cost_walk edges u w)) (subst (λ o. IfSome o (Walk edges w v)) k (cost_walk edges w v)))

-- no more than an edge
pub cost_of_edge : (edges : List Edge) (edge : Edge) → Contains edges edge → IsSomeAnd (cost edges edge.from edge.to) (λ c. c ≤ edge.cost)
cost_of_edge edges edge member = cost_within (Walk-edge edges edge member)

Walk-among : {edges others : List Edge} {u v sum : ℕ} → ((edge : Edge) → Contains edges edge → Contains others edge) → Walk edges u v sum → Walk others u v sum
Walk-among inside (stay u) = stay u
Walk-among inside (step edge v sum member walk) = step edge v sum (inside edge member) (Walk-among inside walk)

-- the same edges, in any order and any number
pub cost-same : (edges others : List Edge) → ((edge : Edge) → Contains edges edge ↔ Contains others edge) → (u v : ℕ) → cost edges u v ≡ cost others u v
cost-same edges others same u v =
    IsCost-unique edges u v (cost edges u v) (cost others u v) (cost_is edges u v)
    (IsCost-from_within edges u v (cost others u v) (IfSome-weaker (cost others u v) (λ sum walk. Walk-among (λ edge. (same edge).1) walk) (cost_walk others u v))
    (λ sum walk. cost_within (Walk-among (λ edge. (same edge).0) walk)))

-- Costs from a router that no edge lowers are the least: each is the sum of a walk, the router's own is 0, and an edge
-- leads to no cost above that of its beginning and its own.
pub IsCost-from_settled : (edges : List Edge) (root : ℕ) (costs : ℕ → Option ℕ) → ((v : ℕ) → IfSome (costs v) (Walk edges root v)) → costs root ≡ Some 0
    → ((edge : Edge) (n : ℕ) → Contains edges edge → costs edge.from ≡ Some n → IsSomeAnd (costs edge.to) (λ m. m ≤ n + edge.cost))
    → (v : ℕ) → IsCost edges root v (costs v)
IsCost-from_settled edges root costs walks own settled v =
    IsCost-from_within edges root v (costs v) (walks v) (λ sum walk. rw zero-add at (along walk 0 (subst (λ o. Within o 0) (sym own) (omega arith)))) where
      along : {u v sum : ℕ} → Walk edges u v sum → (n : ℕ) → Within (costs u) n → Within (costs v) (n + sum)
      along (stay u) n h = rw add-zero h
      along (step edge v sum member walk) n h =
          let at = some_within (costs edge.from) n h in
          rw (← add_assoc n edge.cost sum) (along walk (n + edge.cost) (Within-more (costs edge.to) (at.0 + edge.cost) (n + edge.cost) (settled edge at.0 member at.1) (omega arith)))

-- ---- partitions

pub reached_is_walk : (edges : List Edge) (u v : ℕ) → (is_reached edges u v ≡ true) ↔ ((sum : ℕ) × Walk edges u v sum)
reached_is_walk edges u v = (from_some (cost edges u v) (cost_walk edges u v), λ walk. to_some (cost edges u v) walk.0 (cost_within walk.1)) where
  from_some : (o : Option ℕ) → IfSome o (Walk edges u v) → is_some o ≡ true → (sum : ℕ) × Walk edges u v sum
  from_some None walk some = absurd (false≢true some)
  from_some (Some c) walk some = (c, walk)

  to_some : (o : Option ℕ) (n : ℕ) → Within o n → is_some o ≡ true
  to_some None n within = absurd within
  to_some (Some c) n within = refl

Walk-back : {edges : List Edge} {u v sum : ℕ} → IsTwoWay edges → Walk edges u v sum → (n : ℕ) × Walk edges v u n
Walk-back both (stay u) = (0, stay u)
Walk-back {edges} both (step edge v sum member walk) =
    let rest = Walk-back both walk in
    let back = both edge member in
    let first : Walk edges edge.to edge.from back.0.cost =
    subst (λ x. Walk edges x edge.from back.0.cost) back.2 (subst (λ y. Walk edges back.0.from y back.0.cost) back.3 (Walk-edge edges back.0 back.1)) in
    (rest.0 + back.0.cost, Walk-then rest.1 first)

-- where each edge has one in the other direction, partitions don't overlap
pub reached_equivalence : (edges : List Edge) → IsTwoWay edges → IsEquivalence (is_reached edges)
reached_equivalence edges both = equiv (record {
  symm = λ u v. both_ways (is_reached edges u v) (is_reached edges v u) (back u v) (back v u);
  trans = λ u w v h k.
      let first = (reached_is_walk edges u w).0 h in
      let second = (reached_is_walk edges w v).0 k in
      (reached_is_walk edges u v).1 (first.0 + second.0, Walk-then first.1 second.1);
}) (λ u. (reached_is_walk edges u u).1 (0, stay u)) where
  back : (u v : ℕ) → is_reached edges u v ≡ true → is_reached edges v u ≡ true
  back u v h = (reached_is_walk edges v u).1 (Walk-back both ((reached_is_walk edges u v).0 h).1)
