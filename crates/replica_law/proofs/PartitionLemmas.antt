-- Partitions of a network whose edges go both ways: their least routers.
use Rattle.std.proofs.Common.{◌≡◌, ◌≢◌, ℕ, zero, suc, ◌+◌, ◌<◌, ◌≤◌, Bool, true, false, ◌==◌, ◌⊎◌, ◌↔◌, List, [], ◌∷◌, length, get_or, map, filter, Contains, AllPairs, IsTrue, Option, Some, None, refl, sym, ap, subst, ◌∙◌, inl, inr, arith, eqb, eq-eqb, eqb-true}
use Rattle.std.specs.List.Sorted.{IsStrictlyIncreasing}
use Rattle.std.proofs.lemmas.Bool.{false≢true, cases_Bool, eqb-false}
use Rattle.std.proofs.lemmas.Bool.Decides.{nat_tests}
use Rattle.std.proofs.lemmas.List.Kept.{AllPairs-filter, AllPairs-cons}
use Rattle.rcp_base.specs.declared.names.Edge.{Edge}
use Rattle.rcp_model.specs.Costs.{Walk, stay, step, IsTwoWay, is_reached}
use Rattle.rcp_model.specs.Edges.{is_edge_before}
use Rattle.rcp_model.specs.Graphs.{edges_from}
use Rattle.rcp_model.proofs.MemberLemmas.{Contains-head, Contains-tail, Contains-cases, Contains-none, filter_member, member_of_filter, member_of}
use Rattle.rcp_model.proofs.GraphLemmas.{All-from_members}
use Rattle.rcp_model.proofs.WalkLemmas.{Walk-then, reached_is_walk, reached_equivalence}
use Rattle.cost_rows.proofs.EndLemmas.{map_member, member_of_map}
use Rattle.replica_law.specs.Steps.{IsBeginning, IsLeastIn, AreSpokes, AreSpokesOf, ArePartition, unlike}

pub reached-self : (edges : List Edge) (u : ℕ) → is_reached edges u u ≡ true
reached-self edges u = (reached_is_walk edges u u).1 (0, stay u)

pub reached-back : (edges : List Edge) → IsTwoWay edges → (u v : ℕ) → is_reached edges u v ≡ true → is_reached edges v u ≡ true
reached-back edges both u v reached = sym ((reached_equivalence edges both).symm u v) ∙ reached

pub reached-then : (edges : List Edge) (u v w : ℕ) → is_reached edges u v ≡ true → is_reached edges v w ≡ true → is_reached edges u w ≡ true
reached-then edges u v w first second =
    let a = (reached_is_walk edges u v).0 first in
    let b = (reached_is_walk edges v w).0 second in
    (reached_is_walk edges u w).1 (a.0 + b.0, Walk-then a.1 b.1)

-- ---- where edges begin

-- a walk to another router begins with an edge
walk_begins : {edges : List Edge} {u v sum : ℕ} → Walk edges u v sum → (u ≡ v) ⊎ IsBeginning edges u
walk_begins (stay u) = inl refl
walk_begins (step edge v sum there rest) = inr (edge, there, refl)

pub begins_or_self : (edges : List Edge) (u v : ℕ) → is_reached edges u v ≡ true → (u ≡ v) ⊎ IsBeginning edges u
begins_or_self edges u v reached = walk_begins ((reached_is_walk edges u v).0 reached).1

-- a router that reaches or is reached from where an edge begins
pub begins-reached : (edges : List Edge) → IsTwoWay edges → (u v : ℕ) → IsBeginning edges u → is_reached edges u v ≡ true → IsBeginning edges v
begins-reached edges both u v begins reached = elim (begins_or_self edges v u (reached-back edges both u v reached)) [
  | inl same ↦ subst (IsBeginning edges) (sym same) begins
  | inr is ↦ is
]

-- ---- the least router

pub least-unique : (edges : List Edge) (u l m : ℕ) → IsLeastIn edges u l → IsLeastIn edges u m → l ≡ m
least-unique edges u l m first second =
    let a = first.none_lower m second.inside in
    let b = second.none_lower l first.inside in
    omega (arith, a, b)

-- the routers of a partition have one least router
pub least-shift : (edges : List Edge) → IsTwoWay edges → (u v l : ℕ) → is_reached edges u v ≡ true → IsLeastIn edges u l → IsLeastIn edges v l
least-shift edges both u v l reached least = record {
  inside = reached-then edges v u l (reached-back edges both u v reached) least.inside;
  none_lower = λ w inside. least.none_lower w (reached-then edges u v w reached inside);
}

pub least-itself : (edges : List Edge) → IsTwoWay edges → (u l : ℕ) → IsLeastIn edges u l → IsLeastIn edges l l
least-itself edges both u l least = least-shift edges both u l l least.inside least

-- a router at which no edge begins is alone
pub least-alone : (edges : List Edge) (u : ℕ) → (IsBeginning edges u → ⊥) → IsLeastIn edges u u
least-alone edges u alone = record {
  inside = reached-self edges u;
  none_lower = λ v reached. elim (begins_or_self edges u v reached) [ inl same ↦ omega (arith, same) | inr begins ↦ absurd (alone begins) ];
}

-- two routers have one least router exactly where the one reaches the other
pub with-least : (edges : List Edge) → IsTwoWay edges → (u v l m : ℕ) → IsLeastIn edges u l → IsLeastIn edges v m → eqb m l ≡ is_reached edges u v
with-least edges both u v l m first second = at_test (is_reached edges u v) refl where
  at_test : (t : Bool) → is_reached edges u v ≡ t → eqb m l ≡ t
  at_test true reached = eq-eqb m l (least-unique edges v m l second (least-shift edges both u v l reached first))
  at_test false apart = elim (cases_Bool (eqb m l)) [
    | inl same ↦
        let to_l = subst (λ k. is_reached edges v k ≡ true) (eqb-true m l same) second.inside in
        absurd (false≢true (sym apart ∙ reached-then edges u l v first.inside (reached-back edges both v l to_l)))
    | inr other ↦ other
  ]

-- ---- spokes

later_end : (a b : Edge) → is_edge_before a b ≡ true → a.from ≡ b.from → a.cost ≡ b.cost → a.to < b.to
later_end a b before from cost = numbers a.from a.to a.cost b.from b.to b.cost before from cost where
  numbers : (f t c g u d : ℕ) → is_edge_before (record { from = f; to = t; cost = c }) (record { from = g; to = u; cost = d }) ≡ true → f ≡ g → c ≡ d → t < u
  numbers f t c g u d before from cost = grind (arith, nat_tests)

pub get_or_again : {X : Type 0} (xs : List X) (k : ℕ) (d : X) → get_or xs k (get_or xs k d) ≡ get_or xs k d
get_or_again [] k d = refl
get_or_again (x ∷ xs) zero d = refl
get_or_again (x ∷ xs) (suc k) d = get_or_again xs k d

pub pairs-with : {X : Type 0} (R S : X → X → Type 0) (xs : List X) → AllPairs R xs → ((x y : X) → Contains xs x → Contains xs y → R x y → S x y) → AllPairs S xs
pairs-with {X} R S xs pairs more i j d less within =
    more (get_or xs i d) (get_or xs j d) (i, omega (arith, less, within), default i (omega (arith, less, within))) (j, within, default j within) (pairs i j d less within) where
      default : (k : ℕ) → k < length xs → get_or xs k (get_or xs k d) ≡ get_or xs k d
      default k within_k = get_or_again xs k d

pub spokes_of : (edges spokes : List Edge) (least : ℕ) → IsTwoWay edges → AreSpokes edges spokes → AllPairs (λ a b. IsTrue (is_edge_before a b)) spokes → IsLeastIn edges least least
    → AreSpokesOf edges least (edges_from least spokes)
spokes_of edges spokes least both are rising is_least = record {
  rising = pairs-with (λ a b. IsTrue (is_edge_before a b)) (λ (a b : Edge). a.to < b.to) (edges_from least spokes)
      (AllPairs-filter (λ a b. IsTrue (is_edge_before a b)) (λ (e : Edge). e.from == least) spokes rising)
      (λ a b in_a in_b before.
      let x = taken a in_a in
      let y = taken b in_b in
      later_end a b before (x.1 ∙ sym y.1) (((are a).0 x.0).2 ∙ sym ((are b).0 y.0).2));
  inside = λ edge member. inside edge member;
  each = λ u reached other.
      let begins : IsBeginning edges u = from_other u (begins_or_self edges u least (reached-back edges both least u reached)) other in
      let edge : Edge = record { from = least; to = u; cost = 0 } in
      (edge, kept edge begins (least-shift edges both least u least reached is_least) refl refl, refl);
  whole = λ filled.
      let some = member_of (edges_from least spokes) filled in
      let begins = ((are some.0).0 (taken some.0 some.1).0).0 in
      let edge : Edge = record { from = least; to = least; cost = 0 } in
      (edge, kept edge (begins-reached edges both some.0.to least begins (reached-back edges both least some.0.to (inside some.0 some.1))) is_least refl refl, refl);
} where
  taken : (edge : Edge) → Contains (edges_from least spokes) edge → Contains spokes edge × (edge.from ≡ least)
  taken edge member = let found = member_of_filter (λ (e : Edge). e.from == least) spokes edge member in (found.0, eqb-true edge.from least found.1)

  kept : (edge : Edge) → IsBeginning edges edge.to → IsLeastIn edges edge.to edge.from → edge.cost ≡ 0 → edge.from ≡ least → Contains (edges_from least spokes) edge
  kept edge begins least_in free from = filter_member (λ (e : Edge). e.from == least) spokes edge ((are edge).1 (begins, least_in, free)) (eq-eqb edge.from least from)

  inside : (edge : Edge) → Contains (edges_from least spokes) edge → is_reached edges least edge.to ≡ true
  inside edge member =
      let found = taken edge member in
      reached-back edges both edge.to least (subst (λ l. is_reached edges edge.to l ≡ true) found.1 ((are edge).0 found.0).1.inside)

  from_other : (u : ℕ) → (u ≡ least) ⊎ IsBeginning edges u → u ≢ least → IsBeginning edges u
  from_other u (inl same) other = absurd (other same)
  from_other u (inr begins) other = begins

-- an edge to each router of the partition, where there is some to another router
pub spoke_to : (edges spokes : List Edge) (least w u : ℕ) → AreSpokesOf edges least spokes → is_reached edges least w ≡ true → w ≢ least → is_reached edges least u ≡ true
    → Contains (map (λ (edge : Edge). edge.to) spokes) u
spoke_to edges spokes least w u are reached other inside = elim (cases_Bool (eqb u least)) [
  | inl same ↦
      let some = are.each w reached other in
      let own = are.whole (λ none. Contains-none some.0 (subst (λ (l : List Edge). Contains l some.0) none some.1)) in
      subst (Contains (map (λ (edge : Edge). edge.to) spokes)) (own.2 ∙ sym (eqb-true u least same)) (map_member (λ (edge : Edge). edge.to) spokes own.0 own.1)
  | inr apart ↦
      let edge = are.each u inside (eqb-false u least apart) in
      subst (Contains (map (λ (edge : Edge). edge.to) spokes)) edge.2 (map_member (λ (edge : Edge). edge.to) spokes edge.0 edge.1)
]

-- each router that is moved is at the end of a spoke of the one partition or the other
pub moved_covered : (first second : List Edge) (least other : ℕ) (lost gained : List Edge) → IsTwoWay second → IsLeastIn second least other → AreSpokesOf first least lost → AreSpokesOf second other gained
    → (u : ℕ) → unlike (is_reached first least u) (is_reached second least u) ≡ true → Contains (map (λ (edge : Edge). edge.to) lost) u ⊎ Contains (map (λ (edge : Edge). edge.to) gained) u
moved_covered first second least other lost gained both is_least first_spokes second_spokes u moved =
    at_tests (is_reached first least u) (is_reached second least u) refl refl moved where
      not_least : (a b : Bool) → is_reached first least u ≡ a → is_reached second least u ≡ b → unlike a b ≡ true → u ≢ least
      not_least true true here there moved same = false≢true moved
      not_least true false here there moved same = false≢true (sym there ∙ subst (λ v. is_reached second least v ≡ true) (sym same) (reached-self second least))
      not_least false true here there moved same = false≢true (sym here ∙ subst (λ v. is_reached first least v ≡ true) (sym same) (reached-self first least))
      not_least false false here there moved same = false≢true moved

      at_tests : (a b : Bool) → is_reached first least u ≡ a → is_reached second least u ≡ b → unlike a b ≡ true
          → Contains (map (λ (edge : Edge). edge.to) lost) u ⊎ Contains (map (λ (edge : Edge). edge.to) gained) u
      at_tests true true here there moved = absurd (false≢true moved)
      at_tests false false here there moved = absurd (false≢true moved)
      at_tests true false here there moved = inl (spoke_to first lost least u u first_spokes here (not_least true false here there moved) here)
      at_tests false true here there moved =
          let from_other = reached-back second both least other is_least.inside in
          let inside = reached-then second other least u from_other there in
          let is_other = not_least false true here there moved in
          inr (elim (cases_Bool (eqb u other)) [
            | inl same ↦ spoke_to second gained other least u second_spokes from_other (λ is. is_other (eqb-true u other same ∙ sym is)) inside
            | inr apart ↦ spoke_to second gained other u u second_spokes inside (eqb-false u other apart) inside
          ])

-- a relation of the ends of edges is one of their list
pub pairs-map : (R : ℕ → ℕ → Type 0) (f : Edge → ℕ) (edges : List Edge) → AllPairs (λ (a b : Edge). R (f a) (f b)) edges → AllPairs R (map f edges)
pairs-map R f [] rising = λ i j d less within. absurd (omega (arith, within))
pairs-map R f (edge ∷ edges) rising = AllPairs-cons R (f edge) (map f edges)
    (All-from_members (λ n. R (f edge) n) (map f edges) (λ n member.
    let from = member_of_map f edges n member in
    subst (λ k. R (f edge) k) from.2 (subst (λ (e : Edge). R (f edge) (f e)) from.1.2 (rising 0 (suc from.1.0) from.0 (omega arith) (omega (arith, from.1.1))))))
    (pairs-map R f edges (λ i j d less within. rising (suc i) (suc j) d (omega (arith, less)) (omega (arith, within))))

pub ends-rise : (edges : List Edge) → AllPairs (λ (a b : Edge). a.to < b.to) edges → AllPairs (λ m n. m < n) (map (λ (edge : Edge). edge.to) edges)
ends-rise edges rising = pairs-map (λ m n. m < n) (λ (edge : Edge). edge.to) edges rising

pub increasing : (ns : List ℕ) → AllPairs (λ m n. m < n) ns → IsStrictlyIncreasing ns
increasing ns rising k within = rising k (k + 1) 0 (omega arith) within

-- the partition of a router at which no edge begins, or of the ends of its spokes
pub partition_alone : (edges spokes : List Edge) (least : ℕ) (routers : List ℕ) → AreSpokesOf edges least spokes → length spokes ≡ 0 → routers ≡ least ∷ [] → ArePartition edges least routers
partition_alone edges spokes least routers are none is = record {
  rising = λ k within. absurd (omega (arith, within, ap length is));
  exact = λ u. (
    λ member. elim (Contains-cases least [] u (subst (λ (l : List ℕ). Contains l u) is member)) [
      | inl same ↦ subst (λ v. is_reached edges least v ≡ true) same (reached-self edges least)
      | inr later ↦ absurd (Contains-none u later)
    ],
    λ reached. elim (cases_Bool (eqb u least)) [
      | inl same ↦ subst (λ (l : List ℕ). Contains l u) (sym is) (subst (Contains (least ∷ [])) (sym (eqb-true u least same)) (Contains-head least []))
      | inr other ↦ let edge = are.each u reached (eqb-false u least other) in absurd (omega (arith, edge.1.1, none))
    ],
  );
}

pub partition_ends : (edges spokes : List Edge) (least : ℕ) (routers : List ℕ) → AreSpokesOf edges least spokes → length spokes ≢ 0 → routers ≡ map (λ (edge : Edge). edge.to) spokes → ArePartition edges least routers
partition_ends edges spokes least routers are some is = record {
  rising = subst IsStrictlyIncreasing (sym is) (increasing (map (λ (edge : Edge). edge.to) spokes) (ends-rise spokes are.rising));
  exact = λ u. (
    λ member.
        let from = member_of_map (λ (edge : Edge). edge.to) spokes u (subst (λ (l : List ℕ). Contains l u) is member) in
        subst (λ v. is_reached edges least v ≡ true) from.2 (are.inside from.0 from.1),
    λ reached. subst (λ (l : List ℕ). Contains l u) (sym is) (elim (cases_Bool (eqb u least)) [
      | inl same ↦
          let own = are.whole (λ none. some (ap length none)) in
          subst (Contains (map (λ (edge : Edge). edge.to) spokes)) (own.2 ∙ sym (eqb-true u least same)) (map_member (λ (edge : Edge). edge.to) spokes own.0 own.1)
      | inr other ↦ spoke_to edges spokes least u u are reached (eqb-false u least other) reached
    ]),
  );
}
