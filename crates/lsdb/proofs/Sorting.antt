-- Edges in order, as a sort leaves them.
use Rattle.std.proofs.Common.{Ordering, is_eq, ◌≡◌, ℕ, ◌+◌, Bool, true, false, cond, ◌&&◌, ◌||◌, ◌==◌, nat_lt, ◌⊎◌, ◌↔◌, List, [], ◌∷◌, get_or, Contains, Less, nat_cmp, refl, sym, ap, subst, ◌∙◌, inl, inr, arith}
use Rattle.std.specs.Ordering.{is_lt, ordering_then}
use Rattle.std.specs.List.{AllByRecursion, dedup, dedup_from}
use Rattle.std.specs.List.Sorted.{IsSorted, IsStrictlySortedBy}
use Rattle.std.specs.Cmp.{IsTotalOrder}
use Rattle.std.proofs.lemmas.Cmp.{nat_cmp_total, on_total, then_total}
use Rattle.std.proofs.lemmas.Bool.Decides.{nat_tests}
use Rattle.std.proofs.lemmas.List.Kept.{IsStrictlySortedBy-dedup}
use Rattle.rcp_base.specs.declared.names.Edge.{Edge}
use Rattle.rcp_model.specs.Edges.{is_edge_before, rising_edges}
use Rattle.rcp_model.proofs.MemberLemmas.{Contains-head, Contains-tail, Contains-cases, Contains-none}
use Rattle.rcp_model.proofs.GraphLemmas.{IsRising, same-edge, rising-cons, rising-include, member_of_include, include-member, rising-same}
use Rattle.lsdb.specs.Links.{IsInOrder}

-- ---- the order by which edges are sorted

-- what `==` answers
abbrev pub equal_edge : Edge → Edge → Bool
equal_edge a b = a.from == b.from && (a.to == b.to && a.cost == b.cost)

numbers-equal : (a b c d e f : ℕ) → (a == d && (b == e && c == f)) ≡ (a == d && b == e && c == f)
numbers-equal a b c d e f = grind (arith, nat_tests)

equal-edge : (a b : Edge) → equal_edge a b ≡ true → a ≡ b
equal-edge a b equal = same-edge a b (sym (numbers-equal a.from a.to a.cost b.from b.to b.cost) ∙ equal)

abbrev pub edge_cmp : Edge → Edge → Ordering
edge_cmp a b = ordering_then (nat_cmp a.from b.from) (ordering_then (nat_cmp a.to b.to) (nat_cmp a.cost b.cost))

numbers-before : (a b c d e f : ℕ) → is_lt (ordering_then (nat_cmp a d) (ordering_then (nat_cmp b e) (nat_cmp c f))) ≡ (nat_lt a d || a == d && (nat_lt b e || b == e && nat_lt c f))
numbers-before a b c d e f = grind (arith, nat_tests)

before_is : (a b : Edge) → is_lt (edge_cmp a b) ≡ is_edge_before a b
before_is a b = numbers-before a.from a.to a.cost b.from b.to b.cost

pub in_order : (edges : List Edge) → IsSorted edge_cmp edges → IsInOrder edges
in_order edges sorted k d low high = sym (before_is (get_or edges (k + 1) d) (get_or edges k d)) ∙ sorted k d low high

total : IsTotalOrder edge_cmp
total = then_total (on_total (λ (e : Edge). e.from) nat_cmp_total) (then_total (on_total (λ (e : Edge). e.to) nat_cmp_total) (on_total (λ (e : Edge). e.cost) nat_cmp_total))

numbers-same : (a b c d e f : ℕ) → (a == d && (b == e && c == f)) ≡ is_eq (ordering_then (nat_cmp a d) (ordering_then (nat_cmp b e) (nat_cmp c f)))
numbers-same a b c d e f = grind (arith, nat_tests)

less-before : (a b : Edge) → edge_cmp a b ≡ Less → is_edge_before a b ≡ true
less-before a b less = sym (before_is a b) ∙ ap is_lt less

rising-strict : (edges : List Edge) → IsStrictlySortedBy edge_cmp edges → IsRising edges
unfolding IsStrictlySortedBy
rising-strict [] sorted = λ i j d less within. absurd (omega arith)
rising-strict (edge ∷ edges) sorted = rising-cons edge edges (first edges sorted.0) (rising-strict edges sorted.1) where
  first : (edges : List Edge) → AllByRecursion (λ b. edge_cmp edge b ≡ Less) edges → (b : Edge) → Contains edges b → is_edge_before edge b ≡ true
  first [] below b member = absurd (Contains-none b member)
  first (a ∷ edges) below b member = elim (Contains-cases a edges b member) [
    | inl same ↦ subst (λ e. is_edge_before edge e ≡ true) same (less-before edge a below.0)
    | inr later ↦ first edges below.1 b later
  ]

pub rising-sorted : (edges : List Edge) → IsSorted edge_cmp edges → IsRising (dedup equal_edge edges)
rising-sorted edges sorted = rising-strict (dedup equal_edge edges) (IsStrictlySortedBy-dedup total (λ a b. numbers-same a.from a.to a.cost b.from b.to b.cost) edges sorted)

-- ---- what is left of edges of which each is left once

dedup_from-member : (k : Edge) (edges : List Edge) (a : Edge) → (k ≡ a) ⊎ Contains edges a → Contains (dedup_from equal_edge k edges) a
dedup_from-member k [] a (inl same) = subst (λ e. Contains (k ∷ []) e) same (Contains-head k [])
dedup_from-member k [] a (inr later) = absurd (Contains-none a later)
dedup_from-member k (x ∷ edges) a member = at_test (equal_edge x k) (equal-edge x k) (dedup_from-member k edges a) (dedup_from-member x edges a) member where
  at_test : (t : Bool) → (t ≡ true → x ≡ k) → ((k ≡ a) ⊎ Contains edges a → Contains (dedup_from equal_edge k edges) a) → ((x ≡ a) ⊎ Contains edges a → Contains (dedup_from equal_edge x edges) a)
      → (k ≡ a) ⊎ Contains (x ∷ edges) a → Contains (cond t (dedup_from equal_edge k edges) (k ∷ dedup_from equal_edge x edges)) a
  at_test true is here next (inl same) = here (inl same)
  at_test true is here next (inr later) = elim (Contains-cases x edges a later) [ inl same ↦ here (inl (sym (is refl) ∙ same)) | inr rest ↦ here (inr rest) ]
  at_test false is here next (inl same) = subst (λ e. Contains (k ∷ dedup_from equal_edge x edges) e) same (Contains-head k (dedup_from equal_edge x edges))
  at_test false is here next (inr later) = Contains-tail k (dedup_from equal_edge x edges) a (next (Contains-cases x edges a later))

pub dedup-member : (edges : List Edge) (a : Edge) → Contains edges a → Contains (dedup equal_edge edges) a
dedup-member [] a member = absurd (Contains-none a member)
dedup-member (x ∷ edges) a member = dedup_from-member x edges a (Contains-cases x edges a member)

-- ---- the one rising list of some edges

pub rising-rising : (edges : List Edge) → IsRising (rising_edges edges)
rising-rising [] = λ i j d less within. absurd (omega arith)
rising-rising (a ∷ edges) = rising-include a (rising_edges edges) (rising-rising edges)

pub rising-member : (edges : List Edge) (a : Edge) → Contains edges a → Contains (rising_edges edges) a
rising-member [] a member = absurd (Contains-none a member)
rising-member (x ∷ edges) a member = include-member x (rising_edges edges) a (elim (Contains-cases x edges a member) [ inl same ↦ inl same | inr later ↦ inr (rising-member edges a later) ])

pub member_of_rising : (edges : List Edge) (a : Edge) → Contains (rising_edges edges) a → Contains edges a
member_of_rising [] a member = absurd (Contains-none a member)
member_of_rising (x ∷ edges) a member = elim (member_of_include x (rising_edges edges) a member) [
  | inl same ↦ subst (λ e. Contains (x ∷ edges) e) same (Contains-head x edges)
  | inr later ↦ Contains-tail x edges a (member_of_rising edges a later)
]

pub rising_is : (found edges : List Edge) → IsRising found → ((a : Edge) → Contains found a ↔ Contains edges a) → found ≡ rising_edges edges
rising_is found edges rising same = rising-same found (rising_edges edges) rising (rising-rising edges) (λ a. (
  λ member. rising-member edges a ((same a).0 member),
  λ member. (same a).1 (member_of_rising edges a member),
))
