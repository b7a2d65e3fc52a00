-- The least cost of an edge, found among the edges that begin at its router.
use Rattle.std.proofs.Common.{◌≡◌, ◌≢◌, ℕ, zero, suc, ◌<◌, ◌≤◌, Bool, true, false, cond, not, min, ◌&&◌, ◌==◌, nat_lt, ◌⊎◌, List, [], ◌∷◌, length, get_or, map, slice_get, Contains, AllPairs, IsTrue, Option, Some, None, if◌then◌else◌, refl, sym, ap, subst, ◌∙◌, inl, inr, arith, eqb, eq-eqb, eqb-true, ne_eqb}
use Rattle.std.specs.List.{AllWithin}
use Rattle.std.specs.List.Sorted.{IsPartitionedBy}
use Rattle.std.proofs.lemmas.Bool.{false≢true, eqb-false, cases_Bool}
use Rattle.std.proofs.lemmas.Bool.Decides.{nat_tests}
use Rattle.std.proofs.lemmas.Option.{same_Some, none-some}
use Rattle.std.proofs.lemmas.List.Kept.{AllPairs-filter, AllPairs-cons}
use Rattle.rcp_base.specs.declared.names.Edge.{Edge}
use Rattle.rcp_model.specs.Costs.{lesser, edge_cost}
use Rattle.rcp_model.specs.Edges.{is_edge_before}
use Rattle.rcp_model.specs.Graphs.{edges_from}
use Rattle.rcp_model.specs.RouteServer.{same_cost}
use Rattle.rcp_model.proofs.MemberLemmas.{Contains-head, Contains-tail, filter_member, member_of_filter}
use Rattle.cost_rows.proofs.EndLemmas.{map_member}
use Rattle.replica_law.proofs.CostLemmas.{IsLink, edge_cost_there}
use Rattle.replica_law.proofs.PartitionLemmas.{pairs-with, pairs-map}

abbrev IsRising : List Edge → Type 0
IsRising edges = AllPairs (λ a b. IsTrue (is_edge_before a b)) edges

-- the edges from a router are enough
pub cost_from_run : (edges : List Edge) (u v : ℕ) → edge_cost (edges_from u edges) u v ≡ edge_cost edges u v
cost_from_run [] u v = refl
cost_from_run (edge ∷ edges) u v = at_test (eqb edge.from u) refl (cost_from_run edges u v) where
  at_test : (t : Bool) → eqb edge.from u ≡ t → edge_cost (edges_from u edges) u v ≡ edge_cost edges u v → edge_cost (cond t (edge ∷ edges_from u edges) (edges_from u edges)) u v
      ≡ cond (t && eqb edge.to v) (lesser (Some edge.cost) (edge_cost edges u v)) (edge_cost edges u v)
  at_test true same rest = rw (same, rest) refl
  at_test false other rest = rest

-- ---- the edge at the place

abbrev pub cost_of_end : ℕ → Option Edge → Option ℕ
cost_of_end v None = None
cost_of_end v (Some edge) = if edge.to == v then Some edge.cost else None

abbrev AllBegin : ℕ → List Edge → Type 0
AllBegin u run = (edge : Edge) → Contains run edge → edge.from ≡ u

numbers_later : (f t c g s d v : ℕ) → is_edge_before (record { from = f; to = t; cost = c }) (record { from = g; to = s; cost = d }) ≡ true → f ≡ g → (t ≡ s → c < d) × (t ≤ s)
numbers_later f t c g s d v before same = (λ equal. costs f t c g s d before same equal, ends f t c g s d before same) where
  costs : (f t c g s d : ℕ) → is_edge_before (record { from = f; to = t; cost = c }) (record { from = g; to = s; cost = d }) ≡ true → f ≡ g → t ≡ s → c < d
  costs f t c g s d before same equal = grind (arith, nat_tests)

  ends : (f t c g s d : ℕ) → is_edge_before (record { from = f; to = t; cost = c }) (record { from = g; to = s; cost = d }) ≡ true → f ≡ g → t ≤ s
  ends f t c g s d before same = grind (arith, nat_tests)

-- an edge of the rest is after the first: no lower end, and a higher cost to the same one
after_first : (edge : Edge) (run : List Edge) (u : ℕ) → IsRising (edge ∷ run) → AllBegin u (edge ∷ run) → (other : Edge) → Contains run other → (edge.to ≡ other.to → edge.cost < other.cost) × (edge.to ≤ other.to)
after_first edge run u rising begins other member =
    let before : is_edge_before edge other ≡ true = subst (λ (e : Edge). is_edge_before edge e ≡ true) member.2 (rising 0 (suc member.0) other (omega arith) (omega (arith, member.1))) in
    numbers_later edge.from edge.to edge.cost other.from other.to other.cost 0 before (begins edge (Contains-head edge run) ∙ sym (begins other (Contains-tail edge run other member)))

least_first : (c : ℕ) (o : Option ℕ) → ((m : ℕ) → o ≡ Some m → c < m) → lesser (Some c) o ≡ Some c
least_first c None above = refl
least_first c (Some m) above = let more = above m refl in ap Some (omega (arith, more))

no_link : (o : Option ℕ) → ((m : ℕ) → o ≡ Some m → ⊥) → o ≡ None
no_link None none = refl
no_link (Some m) none = absurd (none m refl)

pub link_at : (run : List Edge) (u v place : ℕ) → IsRising run → AllBegin u run → AllWithin (λ (edge : Edge). nat_lt edge.to v ≡ true) run 0 place
    → AllWithin (λ (edge : Edge). nat_lt edge.to v ≡ false) run place (length run) → edge_cost run u v ≡ cost_of_end v (slice_get run place)
link_at [] u v place rising begins before after = refl
link_at (edge ∷ run) u v (suc place) rising begins before after =
    rw (eq-eqb edge.from u (begins edge (Contains-head edge run)), ne_eqb edge.to v (less edge.to v (before 0 edge (omega arith) (omega arith))))
    (link_at run u v place (λ i j d lt within. rising (suc i) (suc j) d (omega (arith, lt)) (omega (arith, within))) (λ e member. begins e (Contains-tail edge run e member))
    (λ k d at_least below. before (suc k) d (omega arith) (omega (arith, below))) (λ k d at_least below. after (suc k) d (omega (arith, at_least)) (omega (arith, below)))) where
      less : (m v : ℕ) → nat_lt m v ≡ true → m ≢ v
      less m v h same = grind (arith, nat_tests)
link_at (edge ∷ run) u v zero rising begins before after =
    rw (eq-eqb edge.from u (begins edge (Contains-head edge run))) (at_test (eqb edge.to v) (eqb-true edge.to v) (eqb-false edge.to v)) where
      link_after : (m : ℕ) → edge_cost run u v ≡ Some m → (edge.to ≡ v → edge.cost < m) × (edge.to ≤ v)
      link_after m is =
          let link = edge_cost_there run u v m is in
          let later = after_first edge run u rising begins link.edge link.there in (
            λ same. let more = later.0 (same ∙ sym link.ends) in let costs = link.costs in omega (arith, more, costs),
            let low = later.1 in let ends = link.ends in omega (arith, low, ends),
          )

      not_less : (m v : ℕ) → nat_lt m v ≡ false → m ≤ v → m ≢ v → ⊥
      not_less m v h low other = grind (arith, nat_tests)

      at_test : (t : Bool) → (t ≡ true → edge.to ≡ v) → (t ≡ false → edge.to ≢ v) → cond (true && t) (lesser (Some edge.cost) (edge_cost run u v)) (edge_cost run u v) ≡ cond t (Some edge.cost) None
      at_test true same other = least_first edge.cost (edge_cost run u v) (λ m is. (link_after m is).0 (same refl))
      at_test false same other = no_link (edge_cost run u v) (λ m is. not_less edge.to v (after 0 edge (omega arith) (omega arith)) (link_after m is).1 (other refl))

-- ---- the run of a router

pub run_rises : (edges : List Edge) (u : ℕ) → IsRising edges → IsRising (edges_from u edges)
run_rises edges u rising = AllPairs-filter (λ a b. IsTrue (is_edge_before a b)) (λ (e : Edge). e.from == u) edges rising

pub run_begins : (edges : List Edge) (u : ℕ) → AllBegin u (edges_from u edges)
run_begins edges u edge member = eqb-true edge.from u (member_of_filter (λ (e : Edge). e.from == u) edges edge member).1

pub run_ends : (edges : List Edge) (u : ℕ) → IsRising edges → AllPairs (λ (a b : Edge). a.to ≤ b.to) (edges_from u edges)
run_ends edges u rising = pairs-with (λ a b. IsTrue (is_edge_before a b)) (λ (a b : Edge). a.to ≤ b.to) (edges_from u edges) (run_rises edges u rising)
    (λ a b in_a in_b before. (numbers_later a.from a.to a.cost b.from b.to b.cost 0 before (run_begins edges u a in_a ∙ sym (run_begins edges u b in_b))).1)

pub ends-rise : (edges : List Edge) (u : ℕ) → IsRising edges → AllPairs (λ m n. m ≤ n) (map (λ (edge : Edge). edge.to) (edges_from u edges))
ends-rise edges u rising = pairs-map (λ m n. m ≤ n) (λ (edge : Edge). edge.to) (edges_from u edges) (run_ends edges u rising)

pub ends_partition : (run : List Edge) → AllPairs (λ (a b : Edge). a.to ≤ b.to) run → (v : ℕ) → IsPartitionedBy (λ (edge : Edge). nat_lt edge.to v) run
ends_partition run rising v i j d le within h = elim (cases i j le) [
  | inl same ↦ subst (λ k. nat_lt (get_or run k d).to v ≡ true) (sym same) h
  | inr less ↦ let rise = rising i j d less within in below (get_or run i d).to (get_or run j d).to v rise h
] where
  cases : (i j : ℕ) → i ≤ j → (i ≡ j) ⊎ (i < j)
  cases i j le = grind arith

  below : (m n v : ℕ) → m ≤ n → nat_lt n v ≡ true → nat_lt m v ≡ true
  below m n v less h = grind (arith, nat_tests)

-- an end to which the least cost differs is that of an edge of the one network or the other
pub link_covered : (first second : List Edge) (u v : ℕ) → not (same_cost (edge_cost first u v) (edge_cost second u v)) ≡ true
    → Contains (map (λ (edge : Edge). edge.to) (edges_from u first)) v ⊎ Contains (map (λ (edge : Edge). edge.to) (edges_from u second)) v
link_covered first second u v differs = at_costs (edge_cost first u v) (edge_cost second u v) refl refl differs where
  end_of : (edges : List Edge) (m : ℕ) → edge_cost edges u v ≡ Some m → Contains (map (λ (edge : Edge). edge.to) (edges_from u edges)) v
  end_of edges m is =
      let link = edge_cost_there edges u v m is in
      subst (Contains (map (λ (edge : Edge). edge.to) (edges_from u edges))) link.ends
      (map_member (λ (edge : Edge). edge.to) (edges_from u edges) link.edge (filter_member (λ (e : Edge). e.from == u) edges link.edge link.there (eq-eqb link.edge.from u link.begins)))

  at_costs : (a b : Option ℕ) → edge_cost first u v ≡ a → edge_cost second u v ≡ b → not (same_cost a b) ≡ true
      → Contains (map (λ (edge : Edge). edge.to) (edges_from u first)) v ⊎ Contains (map (λ (edge : Edge). edge.to) (edges_from u second)) v
  at_costs (Some m) b is other differs = inl (end_of first m is)
  at_costs None (Some n) is other differs = inr (end_of second n other)
  at_costs None None is other differs = absurd (false≢true differs)
