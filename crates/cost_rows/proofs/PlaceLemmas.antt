-- Places in rising lists of edges.
use Rattle.std.proofs.Common.{◌≡◌, ◌≢◌, ℕ, zero, suc, ◌+◌, ◌<◌, ◌≤◌, Bool, true, false, ◌⊎◌, inl, inr, ◌||◌, ◌&&◌, not, ◌==◌, nat_lt, List, [], ◌∷◌, length, get_or, take, drop, filter, slice_get, Some, Contains, refl, sym, ap, subst, ◌∙◌, arith, get_or-drop, length-drop}
use Rattle.std.specs.List.{AllWithin, insert, remove}
use Rattle.std.specs.List.Sorted.{IsPartitionedBy}
use Rattle.std.proofs.lemmas.Bool.{false≢true}
use Rattle.std.proofs.lemmas.Bool.Decides.{nat_tests}
use Rattle.std.proofs.lemmas.List.Elements.{Contains-get_or}
use Rattle.std.proofs.lemmas.Option.{slice_get_within, get_or_from_slice_get}
use Rattle.rcp_model.proofs.MemberLemmas.{Contains-none, Contains-cases}
use Rattle.rcp_model.proofs.GraphLemmas.{IsRising, before-itself, before-chain, before-total, before-not_back, same-edge, same-itself, rising-head, rising-tail}
use Rattle.rcp_base.specs.declared.names.Edge.{Edge}
use Rattle.rcp_model.specs.Edges.{same_edge, is_edge_before, include_edge}
use Rattle.rcp_model.specs.Graphs.{exclude_edge, edges_from}

-- ---- what a binary search asks

pub before_partitions : (edges : List Edge) → IsRising edges → (e : Edge) → IsPartitionedBy (λ other. is_edge_before other e) edges
before_partitions edges rising e i j d le within h = by_order (le_cases i j le) where
  le_cases : (i j : ℕ) → i ≤ j → (i ≡ j) ⊎ (i < j)
  le_cases i j le = grind arith

  by_order : (i ≡ j) ⊎ (i < j) → is_edge_before (get_or edges i d) e ≡ true
  by_order cases = elim cases [
    | inl same ↦ subst (λ k. is_edge_before (get_or edges k d) e ≡ true) (sym same) h
    | inr less ↦ before-chain (get_or edges i d) (get_or edges j d) e (rising i j d less within) h
  ]

-- the edges go by where they begin
from_of_before : (a b : Edge) → is_edge_before a b ≡ true → a.from ≤ b.from
from_of_before a b h = of_numbers a.from a.to a.cost b.from b.to b.cost h where
  of_numbers : (m n o p q r : ℕ) → (nat_lt m p || m == p && (nat_lt n q || n == q && nat_lt o r)) ≡ true → m ≤ p
  of_numbers m n o p q r h = grind (arith, nat_tests)

from_rises : (edges : List Edge) → IsRising edges → (i j : ℕ) (d : Edge) → i ≤ j → j < length edges → (get_or edges i d).from ≤ (get_or edges j d).from
from_rises edges rising i j d le within = by_order (le_cases i j le) where
  le_cases : (i j : ℕ) → i ≤ j → (i ≡ j) ⊎ (i < j)
  le_cases i j le = grind arith

  by_order : (i ≡ j) ⊎ (i < j) → (get_or edges i d).from ≤ (get_or edges j d).from
  by_order cases = elim cases [
    | inl same ↦ subst (λ k. (get_or edges i d).from ≤ (get_or edges k d).from) same (omega arith)
    | inr less ↦ from_of_before (get_or edges i d) (get_or edges j d) (rising i j d less within)
  ]

pub starts_partition : (edges : List Edge) → IsRising edges → (v : ℕ) → IsPartitionedBy (λ edge. nat_lt edge.from v) edges
starts_partition edges rising v i j d le within h = let rise = from_rises edges rising i j d le within in
    below (get_or edges i d).from (get_or edges j d).from v rise h where
      below : (m n v : ℕ) → m ≤ n → nat_lt n v ≡ true → nat_lt m v ≡ true
      below m n v le h = grind (arith, nat_tests)

pub run_partitions : (edges : List Edge) → IsRising edges → (v start : ℕ) → AllWithin (λ edge. nat_lt edge.from v ≡ false) edges start (length edges) → IsPartitionedBy (λ edge. edge.from == v) (drop start edges)
run_partitions edges rising v start above i j d le within h =
    let n = length-drop start edges in
    let rise = from_rises edges rising (start + i) (start + j) d (omega arith) (omega arith) in
    let low = above (start + i) d (omega arith) (omega arith) in
    rw (get_or-drop start edges i d) (between (get_or edges (start + i) d).from (get_or edges (start + j) d).from v rise low (rw (get_or-drop start edges j d) at h)) where
      between : (m n v : ℕ) → m ≤ n → nat_lt m v ≡ false → (n == v) ≡ true → (m == v) ≡ true
      between m n v le low h = grind (arith, nat_tests)

-- ---- parts that a test leaves

-- a fact within bounds, one place on
within-tail : {X : Type 0} (P : X → Type 0) (x : X) (xs : List X) (low high : ℕ) → AllWithin P (x ∷ xs) (suc low) (suc high) → AllWithin P xs low high
within-tail P x xs low high all k d at_least below = all (suc k) d (omega arith) (omega arith)

within-tail_from : {X : Type 0} (P : X → Type 0) (x : X) (xs : List X) (high : ℕ) → AllWithin P (x ∷ xs) 0 (suc high) → AllWithin P xs 0 high
within-tail_from P x xs high all k d at_least below = all (suc k) d (omega arith) (omega arith)

filter-drop : {X : Type 0} (p : X → Bool) (n : ℕ) (xs : List X) → n ≤ length xs → AllWithin (λ x. p x ≡ false) xs 0 n → filter p (drop n xs) ≡ filter p xs
filter-drop p zero xs within fails = refl
filter-drop p (suc n) [] within fails = absurd (omega arith)
filter-drop p (suc n) (x ∷ xs) within fails = rw (fails 0 x (omega arith) (omega arith)) (filter-drop p n xs (omega arith) (within-tail_from (λ x. p x ≡ false) x xs n fails))

filter-all : {X : Type 0} (p : X → Bool) (xs : List X) → AllWithin (λ x. p x ≡ true) xs 0 (length xs) → filter p xs ≡ xs
filter-all p [] passes = refl
filter-all p (x ∷ xs) passes = rw (passes 0 x (omega arith) (omega arith)) (ap (λ rest. x ∷ rest) (filter-all p xs (within-tail_from (λ x. p x ≡ true) x xs (length xs) passes)))

filter-none : {X : Type 0} (p : X → Bool) (xs : List X) → AllWithin (λ x. p x ≡ false) xs 0 (length xs) → filter p xs ≡ []
filter-none p [] fails = refl
filter-none p (x ∷ xs) fails = rw (fails 0 x (omega arith) (omega arith)) (filter-none p xs (within-tail_from (λ x. p x ≡ false) x xs (length xs) fails))

filter-take : {X : Type 0} (p : X → Bool) (n : ℕ) (xs : List X) → n ≤ length xs → AllWithin (λ x. p x ≡ true) xs 0 n → AllWithin (λ x. p x ≡ false) xs n (length xs) → take n xs ≡ filter p xs
filter-take p zero xs within passes fails = sym (filter-none p xs fails)
filter-take p (suc n) [] within passes fails = absurd (omega arith)
filter-take p (suc n) (x ∷ xs) within passes fails =
    rw (passes 0 x (omega arith) (omega arith)) (ap (λ rest. x ∷ rest)
    (filter-take p n xs (omega arith) (within-tail_from (λ x. p x ≡ true) x xs n passes) (within-tail (λ x. p x ≡ false) x xs n (length xs) fails)))

-- the edges of one router stand together
pub run_is : (edges : List Edge) (v start count : ℕ) → start ≤ length edges → count ≤ length (drop start edges) → AllWithin (λ edge. nat_lt edge.from v ≡ true) edges 0 start
    → AllWithin (λ edge. (edge.from == v) ≡ true) (drop start edges) 0 count → AllWithin (λ edge. (edge.from == v) ≡ false) (drop start edges) count (length (drop start edges))
    → take count (drop start edges) ≡ edges_from v edges
run_is edges v start count within count_within low equal others =
    filter-take (λ edge. edge.from == v) count (drop start edges) count_within equal others
    ∙ filter-drop (λ edge. edge.from == v) start edges within (λ k d at_least below. not_equal (get_or edges k d).from v (low k d at_least below)) where
      not_equal : (m v : ℕ) → nat_lt m v ≡ true → (m == v) ≡ false
      not_equal m v h = grind (arith, nat_tests)

-- ---- an edge put in or taken out at its place

pub include_here : (e : Edge) (edges : List Edge) → IsRising edges → Contains edges e → include_edge e edges ≡ edges
include_here e [] rising member = absurd (Contains-none e member)
include_here e (x ∷ edges) rising member = elim (Contains-cases x edges e member) [
  | inl same ↦ rw (ap (same_edge e) same ∙ same-itself e) refl
  | inr later ↦ rw (other x e (rising-head x edges rising e later) (same_edge e x) refl, before-not_back x e (rising-head x edges rising e later)) (ap (λ rest. x ∷ rest) (include_here e edges (rising-tail x edges rising) later))
] where
  other : (x e : Edge) → is_edge_before x e ≡ true → (t : Bool) → same_edge e x ≡ t → same_edge e x ≡ false
  other x e before true same = absurd (false≢true (sym (before-itself x) ∙ subst (λ y. is_edge_before x y ≡ true) (same-edge e x same) before))
  other x e before false same = same

pub include_new : (e : Edge) (i : ℕ) (edges : List Edge) → i ≤ length edges → (Contains edges e → ⊥) → AllWithin (λ other. is_edge_before other e ≡ true) edges 0 i
    → AllWithin (λ other. is_edge_before other e ≡ false) edges i (length edges) → include_edge e edges ≡ insert edges i e
include_new e zero [] within absent before after = refl
include_new e (suc i) [] within absent before after = absurd (omega arith)
include_new e zero (x ∷ edges) within absent before after =
    let later : is_edge_before x e ≡ false = after 0 x (omega arith) (omega arith) in
    rw (other refl (same_edge e x) refl) (rw (first (same_edge x e) refl later) refl) where
      other : e ≡ e → (t : Bool) → same_edge e x ≡ t → same_edge e x ≡ false
      other u true same = absurd (absent (0, omega arith, sym (same-edge e x same)))
      other u false same = same

      first : (t : Bool) → same_edge x e ≡ t → is_edge_before x e ≡ false → is_edge_before e x ≡ true
      first true same later = absurd (absent (0, omega arith, same-edge x e same))
      first false same later = before-total x e same later
include_new e (suc i) (x ∷ edges) within absent before after =
    let first : is_edge_before x e ≡ true = before 0 x (omega arith) (omega arith) in
    rw (other first (same_edge e x) refl, before-not_back x e first)
    (ap (λ rest. x ∷ rest) (include_new e i edges (omega arith) (λ member. absent (suc member.0, omega arith, member.2))
    (within-tail_from (λ other. is_edge_before other e ≡ true) x edges i before) (within-tail (λ other. is_edge_before other e ≡ false) x edges i (length edges) after))) where
      other : is_edge_before x e ≡ true → (t : Bool) → same_edge e x ≡ t → same_edge e x ≡ false
      other first true same = absurd (false≢true (sym (before-itself x) ∙ subst (λ y. is_edge_before x y ≡ true) (same-edge e x same) first))
      other first false same = same

-- an edge that doesn't stand at its place isn't there
pub absent_at : (e : Edge) (i : ℕ) (edges : List Edge) → IsRising edges → AllWithin (λ other. is_edge_before other e ≡ true) edges 0 i → AllWithin (λ other. is_edge_before other e ≡ false) edges i (length edges)
    → (i < length edges → get_or edges i e ≢ e) → Contains edges e → ⊥
absent_at e i edges rising before after other member = by_order (cases member.0 i) where
  cases : (k i : ℕ) → (k < i) ⊎ ((k ≡ i) ⊎ (i < k))
  cases k i = grind arith

  by_order : (member.0 < i) ⊎ ((member.0 ≡ i) ⊎ (i < member.0)) → ⊥
  by_order order = elim order [
    | inl less ↦ false≢true (sym (before-itself e) ∙ subst (λ x. is_edge_before x e ≡ true) member.2 (before member.0 e (omega arith) less))
    | inr rest ↦ elim rest [
      | inl same ↦ other (omega arith) (ap (λ k. get_or edges k e) (sym same) ∙ member.2)
      | inr more ↦ false≢true (sym (after i e (omega arith) (omega arith)) ∙ subst (λ x. is_edge_before (get_or edges i e) x ≡ true) member.2 (rising i member.0 e more member.1))
    ]
  ]

pub exclude_absent : (e : Edge) (edges : List Edge) → (Contains edges e → ⊥) → exclude_edge e edges ≡ edges
exclude_absent e edges absent = filter-all (λ b. not (same_edge e b)) edges (λ k d at_least below. ap not (other (get_or edges k d) (Contains-get_or edges k d below) (same_edge e (get_or edges k d)) refl)) where
  other : (x : Edge) → Contains edges x → (t : Bool) → same_edge e x ≡ t → same_edge e x ≡ false
  other x member true same = absurd (absent (subst (Contains edges) (sym (same-edge e x same)) member))
  other x member false same = same

pub exclude_at : (e : Edge) (i : ℕ) (edges : List Edge) → IsRising edges → i < length edges → get_or edges i e ≡ e → exclude_edge e edges ≡ remove edges i
exclude_at e i [] rising within at = absurd (omega arith)
exclude_at e zero (x ∷ edges) rising within at =
    rw (ap (same_edge e) at ∙ same-itself e) (exclude_absent e edges (λ member. false≢true (sym (before-itself e) ∙ subst (λ y. is_edge_before y e ≡ true) at (rising-head x edges rising e member))))
exclude_at e (suc i) (x ∷ edges) rising within at =
    rw (other (rising-head x edges rising e (i, omega arith, at)) (same_edge e x) refl) (ap (λ rest. x ∷ rest) (exclude_at e i edges (rising-tail x edges rising) (omega arith) at)) where
      other : is_edge_before x e ≡ true → (t : Bool) → same_edge e x ≡ t → same_edge e x ≡ false
      other first true same = absurd (false≢true (sym (before-itself x) ∙ subst (λ y. is_edge_before x y ≡ true) (same-edge e x same) first))
      other first false same = same

-- ---- the same of an edge that was found at a place

pub found_member : (e : Edge) (i : ℕ) (edges : List Edge) → slice_get edges i ≡ Some e → Contains edges e
found_member e i edges found = (i, slice_get_within edges i e found, get_or_from_slice_get edges i e e found)

pub include_found : (e : Edge) (i : ℕ) (edges : List Edge) → IsRising edges → slice_get edges i ≡ Some e → include_edge e edges ≡ edges
include_found e i edges rising found = include_here e edges rising (found_member e i edges found)

pub exclude_found : (e : Edge) (i : ℕ) (edges : List Edge) → IsRising edges → slice_get edges i ≡ Some e → exclude_edge e edges ≡ remove edges i
exclude_found e i edges rising found = exclude_at e i edges rising (slice_get_within edges i e found) (get_or_from_slice_get edges i e e found)
