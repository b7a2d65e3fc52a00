-- Graphs as rising lists of edges: what is put in and taken out, and how many routers they have.
use Rattle.std.proofs.Common.{◌≡◌, ◌≢◌, ℕ, suc, ◌+◌, ◌*◌, ◌<◌, ◌≤◌, Bool, true, false, cond, not, ◌&&◌, ◌||◌, ◌==◌, nat_lt, ◌⊎◌, ◌↔◌, List, [], ◌∷◌, length, filter, All, AllPairs, Contains, IsTrue, refl, sym, ap, subst, ap₂, ◌∙◌, inl, inr, arith, eqb-true, eq-eqb}
use Rattle.std.specs.List.{list_any}
use Rattle.std.proofs.lemmas.Bool.{false≢true}
use Rattle.std.proofs.lemmas.Bool.Decides.{nat_tests}
use Rattle.std.proofs.lemmas.List.Elements.{All-nil, All-cons, All-contains}
use Rattle.std.proofs.lemmas.List.Kept.{AllPairs-cons, AllPairs-filter}
use Rattle.rcp_model.proofs.MemberLemmas.{Contains-head, Contains-tail, Contains-cases, Contains-none, any_member, any_from_member, filter_member, member_of_filter}
use Rattle.rcp_base.specs.declared.names.Edge.{Edge}
use Rattle.rcp_model.specs.Edges.{same_edge, is_edge_before, include_edge}
use Rattle.rcp_model.specs.Graphs.{include_router, routers_in, IsGraph, exclude_edge}

-- ---- the order of edges

abbrev lex_before : ℕ → ℕ → ℕ → ℕ → ℕ → ℕ → Bool
lex_before a b c d e f = nat_lt a d || a == d && (nat_lt b e || b == e && nat_lt c f)

lex-itself : (a b c : ℕ) → lex_before a b c a b c ≡ false
lex-itself a b c = grind (arith, nat_tests)

lex-chain : (a b c d e f g h i : ℕ) → lex_before a b c d e f ≡ true → lex_before d e f g h i ≡ true → lex_before a b c g h i ≡ true
lex-chain a b c d e f g h i p q = grind (arith, nat_tests)

lex-total : (a b c d e f : ℕ) → (a == d && b == e && c == f) ≡ false → lex_before a b c d e f ≡ false → lex_before d e f a b c ≡ true
lex-total a b c d e f p q = grind (arith, nat_tests)

pub before-itself : (a : Edge) → is_edge_before a a ≡ false
before-itself a = lex-itself a.from a.to a.cost

pub before-chain : (a b c : Edge) → is_edge_before a b ≡ true → is_edge_before b c ≡ true → is_edge_before a c ≡ true
before-chain a b c p q = lex-chain a.from a.to a.cost b.from b.to b.cost c.from c.to c.cost p q

pub before-total : (a b : Edge) → same_edge a b ≡ false → is_edge_before a b ≡ false → is_edge_before b a ≡ true
before-total a b p q = lex-total a.from a.to a.cost b.from b.to b.cost p q

pub before-not_back : (a b : Edge) → is_edge_before a b ≡ true → is_edge_before b a ≡ false
before-not_back a b h = at_test (is_edge_before b a) refl where
  at_test : (t : Bool) → is_edge_before b a ≡ t → is_edge_before b a ≡ false
  at_test true k = absurd (false≢true (sym (before-itself a) ∙ before-chain a b a h k))
  at_test false k = k

abbrev edge_of : ℕ → ℕ → ℕ → Edge
edge_of from to cost = record { from = from; to = to; cost = cost }

pub same-edge : (a b : Edge) → same_edge a b ≡ true → a ≡ b
same-edge a b h = of_parts (a.from == b.from) (a.to == b.to) (a.cost == b.cost) h (eqb-true a.from b.from) (eqb-true a.to b.to) (eqb-true a.cost b.cost) where
  of_parts : (p q r : Bool) → (p && q && r) ≡ true → (p ≡ true → a.from ≡ b.from) → (q ≡ true → a.to ≡ b.to) → (r ≡ true → a.cost ≡ b.cost) → a ≡ b
  of_parts true true true h from to cost =
      ap (λ n. edge_of n a.to a.cost) (from refl) ∙ ap (λ n. edge_of b.from n a.cost) (to refl) ∙ ap (λ n. edge_of b.from b.to n) (cost refl)
  of_parts true true false h from to cost = absurd (false≢true h)
  of_parts true false r h from to cost = absurd (false≢true h)
  of_parts false q r h from to cost = absurd (false≢true h)

pub same-itself : (a : Edge) → same_edge a a ≡ true
same-itself a = rw (eq-eqb a.from a.from refl, eq-eqb a.to a.to refl, eq-eqb a.cost a.cost refl) refl

-- ---- an edge put into a rising list

-- each edge is before the later ones
abbrev pub IsRising : List Edge → Type 0
IsRising edges = AllPairs (λ a b. IsTrue (is_edge_before a b)) edges

pub member_of_include : (a : Edge) (edges : List Edge) (b : Edge) → Contains (include_edge a edges) b → (a ≡ b) ⊎ Contains edges b
member_of_include a [] b member = elim (Contains-cases a [] b member) [ inl same ↦ inl same | inr rest ↦ absurd (Contains-none b rest) ]
member_of_include a (c ∷ edges) b member = at_tests (same_edge a c) (is_edge_before a c) (member_of_include a edges b) member where
  at_tests : (p q : Bool) → (Contains (include_edge a edges) b → (a ≡ b) ⊎ Contains edges b)
      → Contains (cond p (c ∷ edges) (cond q (a ∷ c ∷ edges) (c ∷ include_edge a edges))) b → (a ≡ b) ⊎ Contains (c ∷ edges) b
  at_tests true q rest member = inr member
  at_tests false true rest member = Contains-cases a (c ∷ edges) b member
  at_tests false false rest member = elim (Contains-cases c (include_edge a edges) b member) [
    | inl same ↦ inr (subst (Contains (c ∷ edges)) same (Contains-head c edges))
    | inr later ↦ elim (rest later) [ inl same ↦ inl same | inr inside ↦ inr (Contains-tail c edges b inside) ]
  ]

pub include-member : (a : Edge) (edges : List Edge) (b : Edge) → (a ≡ b) ⊎ Contains edges b → Contains (include_edge a edges) b
include-member a [] b member = elim member [ inl same ↦ subst (Contains (a ∷ [])) same (Contains-head a []) | inr rest ↦ absurd (Contains-none b rest) ]
include-member a (c ∷ edges) b member = at_tests (same_edge a c) (same-edge a c) (is_edge_before a c) (include-member a edges b) where
  at_tests : (p : Bool) → (p ≡ true → a ≡ c) → (q : Bool) → ((a ≡ b) ⊎ Contains edges b → Contains (include_edge a edges) b)
      → Contains (cond p (c ∷ edges) (cond q (a ∷ c ∷ edges) (c ∷ include_edge a edges))) b
  at_tests true is q rest = elim member [ inl same ↦ subst (Contains (c ∷ edges)) (sym (is refl) ∙ same) (Contains-head c edges) | inr inside ↦ inside ]
  at_tests false is true rest = elim member [ inl same ↦ subst (Contains (a ∷ c ∷ edges)) same (Contains-head a (c ∷ edges)) | inr inside ↦ Contains-tail a (c ∷ edges) b inside ]
  at_tests false is false rest = elim member [
    | inl same ↦ Contains-tail c (include_edge a edges) b (rest (inl same))
    | inr inside ↦ elim (Contains-cases c edges b inside) [
      | inl same ↦ subst (Contains (c ∷ include_edge a edges)) same (Contains-head c (include_edge a edges))
      | inr later ↦ Contains-tail c (include_edge a edges) b (rest (inr later))
    ]
  ]

-- a fact of each member
pub All-from_members : {X : Type 0} (P : X → Type 0) (xs : List X) → ((x : X) → Contains xs x → P x) → All P xs
All-from_members P [] each = All-nil P
All-from_members P (x ∷ xs) each = All-cons P x xs (each x (Contains-head x xs)) (All-from_members P xs (λ y member. each y (Contains-tail x xs y member)))

-- the head of a rising list is before the rest, and the rest rises
pub rising-head : (a : Edge) (edges : List Edge) → IsRising (a ∷ edges) → (b : Edge) → Contains edges b → is_edge_before a b ≡ true
rising-head a edges rising b member = subst (λ c. is_edge_before a c ≡ true) member.2 (rising 0 (suc member.0) b (omega arith) (omega arith))

pub rising-tail : (a : Edge) (edges : List Edge) → IsRising (a ∷ edges) → IsRising edges
rising-tail a edges rising i j d less within = rising (suc i) (suc j) d (omega arith) (omega arith)

pub rising-cons : (a : Edge) (edges : List Edge) → ((b : Edge) → Contains edges b → is_edge_before a b ≡ true) → IsRising edges → IsRising (a ∷ edges)
rising-cons a edges first rest = AllPairs-cons (λ a b. IsTrue (is_edge_before a b)) a edges (All-from_members (λ b. IsTrue (is_edge_before a b)) edges first) rest

pub rising-include : (a : Edge) (edges : List Edge) → IsRising edges → IsRising (include_edge a edges)
rising-include a [] rising = rising-cons a [] (λ b member. absurd (Contains-none b member)) rising
rising-include a (c ∷ edges) rising = at_tests (same_edge a c) refl (is_edge_before a c) refl (rising-include a edges (rising-tail c edges rising)) where
  at_tests : (p : Bool) → same_edge a c ≡ p → (q : Bool) → is_edge_before a c ≡ q → IsRising (include_edge a edges) → IsRising (cond p (c ∷ edges) (cond q (a ∷ c ∷ edges) (c ∷ include_edge a edges)))
  at_tests true same q before rest = rising
  at_tests false other true before rest = rising-cons a (c ∷ edges) (λ b member. elim (Contains-cases c edges b member) [
    | inl is ↦ subst (λ e. is_edge_before a e ≡ true) is before
    | inr later ↦ before-chain a c b before (rising-head c edges rising b later)
  ]) rising
  at_tests false other false after rest = rising-cons c (include_edge a edges) (λ b member. elim (member_of_include a edges b member) [
    | inl is ↦ subst (λ e. is_edge_before c e ≡ true) is (before-total a c other after)
    | inr later ↦ rising-head c edges rising b later
  ]) rest

-- rising lists with the same members are the same
pub rising-same : (xs ys : List Edge) → IsRising xs → IsRising ys → ((a : Edge) → Contains xs a ↔ Contains ys a) → xs ≡ ys
rising-same [] [] rx ry same = refl
rising-same [] (y ∷ ys) rx ry same = absurd (Contains-none y ((same y).1 (Contains-head y ys)))
rising-same (x ∷ xs) [] rx ry same = absurd (Contains-none x ((same x).0 (Contains-head x xs)))
rising-same (x ∷ xs) (y ∷ ys) rx ry same =
    let first : x ≡ y = heads in
    ap₂ (λ a rest. a ∷ rest) first (rising-same xs ys (rising-tail x xs rx) (rising-tail y ys ry) (λ a. (
      λ member. elim (Contains-cases y ys a ((same a).0 (Contains-tail x xs a member))) [ inl is ↦ absurd (not_itself x a (first ∙ is) (rising-head x xs rx a member)) | inr later ↦ later ],
      λ member. elim (Contains-cases x xs a ((same a).1 (Contains-tail y ys a member))) [ inl is ↦ absurd (not_itself y a (sym first ∙ is) (rising-head y ys ry a member)) | inr later ↦ later ],
    ))) where
      not_itself : (a b : Edge) → a ≡ b → is_edge_before a b ≡ true → ⊥
      not_itself a b is before = false≢true (sym (before-itself a) ∙ subst (λ c. is_edge_before a c ≡ true) (sym is) before)

      heads : x ≡ y
      heads = elim (Contains-cases y ys x ((same x).0 (Contains-head x xs))) [
        | inl is ↦ sym is
        | inr later ↦ elim (Contains-cases x xs y ((same y).1 (Contains-head y ys))) [
          | inl is ↦ is
          | inr later' ↦ absurd (false≢true (sym (before-not_back x y (rising-head x xs rx y later')) ∙ rising-head y ys ry x later))
        ]
      ]

-- ---- how many routers there are

-- numbers without one of them are fewer
fewer_without : (n : ℕ) (ns : List ℕ) → Contains ns n → length (filter (λ m. not (m == n)) ns) < length ns
fewer_without n [] member = absurd (Contains-none n member)
fewer_without n (m ∷ ns) member = at_test (m == n) (Contains-cases m ns n member) (eq-eqb m n) (fewer_without n ns) (no_more n ns) where
  no_more : (n : ℕ) (ns : List ℕ) → length (filter (λ m. not (m == n)) ns) ≤ length ns
  no_more n [] = omega arith
  no_more n (m ∷ ns) = at_test (m == n) (no_more n ns) where
    at_test : (t : Bool) → length (filter (λ m. not (m == n)) ns) ≤ length ns → length (cond (not t) (m ∷ filter (λ m. not (m == n)) ns) (filter (λ m. not (m == n)) ns)) ≤ length (m ∷ ns)
    at_test true h = omega arith
    at_test false h = omega arith

  at_test : (t : Bool) → (m ≡ n) ⊎ Contains ns n → (m ≡ n → t ≡ true) → (Contains ns n → length (filter (λ m. not (m == n)) ns) < length ns) → length (filter (λ m. not (m == n)) ns) ≤ length ns
      → length (cond (not t) (m ∷ filter (λ m. not (m == n)) ns) (filter (λ m. not (m == n)) ns)) < length (m ∷ ns)
  at_test true cases is rest fewer = omega arith
  at_test false cases is rest fewer = elim cases [ inl same ↦ absurd (false≢true (is same)) | inr later ↦ let h = rest later in omega arith ]

-- numbers of which no two are equal are no more than those among which they are
pub apart_within : (ms ns : List ℕ) → AllPairs (λ a b. a ≢ b) ms → ((n : ℕ) → Contains ms n → Contains ns n) → length ms ≤ length ns
apart_within [] ns apart within = omega arith
apart_within (m ∷ ms) ns apart within =
    let rest = apart_within ms (filter (λ k. not (k == m)) ns) (λ i j d less in_range. apart (suc i) (suc j) d (omega arith) (omega arith))
    (λ n member. filter_member (λ k. not (k == m)) ns n (within n (Contains-tail m ms n member)) (ap not (other n member (n == m) refl))) in
    omega (arith, fewer_without m ns (within m (Contains-head m ms)), rest) where
      other : (n : ℕ) → Contains ms n → (t : Bool) → (n == m) ≡ t → (n == m) ≡ false
      other n member true same = absurd (apart 0 (suc member.0) n (omega arith) (omega arith) (sym (eqb-true n m same) ∙ sym member.2))
      other n member false differs = differs

include_router-cases : (router : ℕ) (routers : List ℕ) (n : ℕ) → Contains (include_router router routers) n → (router ≡ n) ⊎ Contains routers n
include_router-cases router routers n member = at_test (list_any (λ other. other == router) routers) member where
  at_test : (t : Bool) → Contains (cond t routers (router ∷ routers)) n → (router ≡ n) ⊎ Contains routers n
  at_test true member = inr member
  at_test false member = Contains-cases router routers n member

include_router-member : (router : ℕ) (routers : List ℕ) (n : ℕ) → (router ≡ n) ⊎ Contains routers n → Contains (include_router router routers) n
include_router-member router routers n cases = at_test (list_any (λ other. other == router) routers) refl where
  at_test : (t : Bool) → list_any (λ other. other == router) routers ≡ t → Contains (cond t routers (router ∷ routers)) n
  at_test true any = elim cases [ inl same ↦ let by = any_member (λ other. other == router) routers any in subst (Contains routers) (eqb-true by.0 router by.2 ∙ same) by.1 | inr inside ↦ inside ]
  at_test false none = elim cases [ inl same ↦ subst (Contains (router ∷ routers)) same (Contains-head router routers) | inr inside ↦ Contains-tail router routers n inside ]

include_router-apart : (router : ℕ) (routers : List ℕ) → AllPairs (λ a b. a ≢ b) routers → AllPairs (λ a b. a ≢ b) (include_router router routers)
include_router-apart router routers apart = at_test (list_any (λ other. other == router) routers) refl where
  at_test : (t : Bool) → list_any (λ other. other == router) routers ≡ t → AllPairs (λ a b. a ≢ b) (cond t routers (router ∷ routers))
  at_test true any = apart
  at_test false none = AllPairs-cons (λ a b. a ≢ b) router routers (All-from_members (λ b. router ≢ b) routers
      (λ b member same. false≢true (sym none ∙ any_from_member (λ other. other == router) routers b member (eq-eqb b router (sym same))))) apart

pub routers-apart : (edges : List Edge) → AllPairs (λ a b. a ≢ b) (routers_in edges)
routers-apart [] = λ i j d less within. absurd (omega arith)
routers-apart (edge ∷ edges) = include_router-apart edge.from (include_router edge.to (routers_in edges)) (include_router-apart edge.to (routers_in edges) (routers-apart edges))

-- they are the ends of the edges
pub routers_at : (edges : List Edge) (edge : Edge) → Contains edges edge → Contains (routers_in edges) edge.from × Contains (routers_in edges) edge.to
routers_at [] edge member = absurd (Contains-none edge member)
routers_at (other ∷ edges) edge member = elim (Contains-cases other edges edge member) [
  | inl same ↦ subst (λ (e : Edge). Contains (routers_in (other ∷ edges)) e.from × Contains (routers_in (other ∷ edges)) e.to) same
      (within other.from (inl refl), within other.to (inr (include_router-member other.to (routers_in edges) other.to (inl refl))))
  | inr later ↦ let ends = routers_at edges edge later in
      (within edge.from (inr (include_router-member other.to (routers_in edges) edge.from (inr ends.0))), within edge.to (inr (include_router-member other.to (routers_in edges) edge.to (inr ends.1))))
] where
  within : (n : ℕ) → (other.from ≡ n) ⊎ Contains (include_router other.to (routers_in edges)) n → Contains (routers_in (other ∷ edges)) n
  within n cases = include_router-member other.from (include_router other.to (routers_in edges)) n cases

pub ends_of_router : (edges : List Edge) (n : ℕ) → Contains (routers_in edges) n → (edge : Edge) × Contains edges edge × ((edge.from ≡ n) ⊎ (edge.to ≡ n))
ends_of_router [] n member = absurd (Contains-none n member)
ends_of_router (edge ∷ edges) n member = elim (include_router-cases edge.from (include_router edge.to (routers_in edges)) n member) [
  | inl same ↦ (edge, Contains-head edge edges, inl same)
  | inr rest ↦ elim (include_router-cases edge.to (routers_in edges) n rest) [
    | inl same ↦ (edge, Contains-head edge edges, inr same)
    | inr later ↦ let found = ends_of_router edges n later in (found.0, Contains-tail edge edges found.0 found.1, found.2)
  ]
]

-- edges between some routers have no more of them
pub routers_within : (edges : List Edge) (names : List ℕ) → ((edge : Edge) → Contains edges edge → Contains names edge.from × Contains names edge.to) → length (routers_in edges) ≤ length names
routers_within edges names within = apart_within (routers_in edges) names (routers-apart edges) (λ n member. named n (ends_of_router edges n member)) where
  named : (n : ℕ) → (edge : Edge) × Contains edges edge × ((edge.from ≡ n) ⊎ (edge.to ≡ n)) → Contains names n
  named n found = elim found.2 [
    | inl same ↦ subst (Contains names) same (within found.0 found.1).0
    | inr same ↦ subst (Contains names) same (within found.0 found.1).1
  ]

-- ---- what a graph keeps

pub graph-include : (a : Edge) (edges : List Edge) → IsGraph edges → length (routers_in (include_edge a edges)) ≤ 2560 → a.cost ≤ 65535 → IsGraph (include_edge a edges)
graph-include a edges graph few cheap = record {
  rising = rising-include a edges graph.rising;
  few = few;
  cheap = All-from_members (λ (edge : Edge). edge.cost ≤ 65535) (include_edge a edges) (λ b member. elim (member_of_include a edges b member) [
    | inl same ↦ subst (λ (e : Edge). e.cost ≤ 65535) same cheap
    | inr inside ↦ All-contains (λ (edge : Edge). edge.cost ≤ 65535) edges b graph.cheap inside
  ]);
}

pub graph-exclude : (a : Edge) (edges : List Edge) → IsGraph edges → IsGraph (exclude_edge a edges)
graph-exclude a edges graph = record {
  rising = AllPairs-filter (λ a b. IsTrue (is_edge_before a b)) (λ b. not (same_edge a b)) edges graph.rising;
  few = omega (arith, graph.few, routers_within (exclude_edge a edges) (routers_in edges) (λ edge member. routers_at edges edge (member_of_filter (λ b. not (same_edge a b)) edges edge member).0));
  cheap = All-from_members (λ (edge : Edge). edge.cost ≤ 65535) (exclude_edge a edges) (λ b member. All-contains (λ (edge : Edge). edge.cost ≤ 65535) edges b graph.cheap (member_of_filter (λ b. not (same_edge a b)) edges b member).0);
}

-- an edge adds at most itself, and two routers
pub length-include : (a : Edge) (edges : List Edge) → length (include_edge a edges) ≤ length edges + 1
length-include a [] = omega arith
length-include a (b ∷ edges) = at_tests (same_edge a b) (is_edge_before a b) (length-include a edges) where
  at_tests : (p q : Bool) → length (include_edge a edges) ≤ length edges + 1 → length (cond p (b ∷ edges) (cond q (a ∷ b ∷ edges) (b ∷ include_edge a edges))) ≤ length (b ∷ edges) + 1
  at_tests true q rest = omega arith
  at_tests false true rest = omega arith
  at_tests false false rest = omega arith

length-include_router : (router : ℕ) (routers : List ℕ) → length (include_router router routers) ≤ length routers + 1
length-include_router router routers = at_test (list_any (λ other. other == router) routers) where
  at_test : (t : Bool) → length (cond t routers (router ∷ routers)) ≤ length routers + 1
  at_test true = omega arith
  at_test false = omega arith

pub length-routers : (edges : List Edge) → length (routers_in edges) ≤ 2 * length edges
length-routers [] = omega arith
length-routers (edge ∷ edges) =
    omega (arith, length-routers edges, length-include_router edge.to (routers_in edges), length-include_router edge.from (include_router edge.to (routers_in edges)))
