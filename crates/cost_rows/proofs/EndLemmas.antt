-- The routers at the ends of edges, as names.
use Rattle.std.proofs.Common.{◌≡◌, ℕ, ◌≤◌, ◌⊎◌, List, [], ◌∷◌, ◌++◌, map, length, Contains, subst, inl, inr, arith, length-append}
use Rattle.std.specs.List.Sorted.{IsStrictlyIncreasing}
use Rattle.std.proofs.lemmas.List.Elements.{Contains-append_left, Contains-append_right, Contains-append_cases}
use Rattle.rcp_model.proofs.MemberLemmas.{Contains-head, Contains-tail, Contains-cases, Contains-none}
use Rattle.rcp_model.proofs.GraphLemmas.{apart_within, routers_at}
use Rattle.rcp_base.specs.declared.names.Edge.{Edge}
use Rattle.rcp_model.specs.Graphs.{IsGraph, routers_in}
use Rattle.cost_rows.specs.Search.{ends_of, AreNames}
use Rattle.cost_rows.proofs.NameLemmas.{apart}

pub map_member : {X Y : Type 0} (f : X → Y) (xs : List X) (x : X) → Contains xs x → Contains (map f xs) (f x)
map_member f [] x member = absurd (Contains-none x member)
map_member f (y ∷ xs) x member = elim (Contains-cases y xs x member) [
  | inl same ↦ subst (λ z. Contains (map f (y ∷ xs)) (f z)) same (Contains-head (f y) (map f xs))
  | inr later ↦ Contains-tail (f y) (map f xs) (f x) (map_member f xs x later)
]

pub member_of_map : {X Y : Type 0} (f : X → Y) (xs : List X) (y : Y) → Contains (map f xs) y → (x : X) × Contains xs x × (f x ≡ y)
member_of_map f [] y member = absurd (Contains-none y member)
member_of_map f (x ∷ xs) y member = elim (Contains-cases (f x) (map f xs) y member) [
  | inl same ↦ (x, Contains-head x xs, same)
  | inr later ↦ let found = member_of_map f xs y later in (found.0, Contains-tail x xs found.0 found.1, found.2)
]

pub ends_at : (edges : List Edge) (edge : Edge) → Contains edges edge → Contains (ends_of edges) edge.from × Contains (ends_of edges) edge.to
ends_at edges edge member = (
  Contains-append_left (map (λ (e : Edge). e.from) edges) (map (λ (e : Edge). e.to) edges) edge.from (map_member (λ (e : Edge). e.from) edges edge member),
  Contains-append_right (map (λ (e : Edge). e.from) edges) (map (λ (e : Edge). e.to) edges) edge.to (map_member (λ (e : Edge). e.to) edges edge member),
)

ends_routers : (edges : List Edge) (n : ℕ) → Contains (ends_of edges) n → Contains (routers_in edges) n
ends_routers edges n member = elim (Contains-append_cases (map (λ (e : Edge). e.from) edges) (map (λ (e : Edge). e.to) edges) n member) [
  | inl start ↦ let found = member_of_map (λ (e : Edge). e.from) edges n start in subst (Contains (routers_in edges)) found.2 (routers_at edges found.0 found.1).0
  | inr end ↦ let found = member_of_map (λ (e : Edge). e.to) edges n end in subst (Contains (routers_in edges)) found.2 (routers_at edges found.0 found.1).1
]

-- names made of the ends and of more routers, and of no others
pub names_are : (edges : List Edge) (more names : List ℕ) → IsGraph edges → length more ≤ 512 → IsStrictlyIncreasing names → ((n : ℕ) → Contains (ends_of edges ++ more) n → Contains names n)
    → ((n : ℕ) → Contains names n → Contains (ends_of edges ++ more) n) → AreNames edges names
names_are edges more names graph few rising kept no_other = record {
  rising = rising;
  ends = λ edge member. let at = ends_at edges edge member in
      (kept edge.from (Contains-append_left (ends_of edges) more edge.from at.0), kept edge.to (Contains-append_left (ends_of edges) more edge.to at.1));
  few =
      let within = apart_within names (routers_in edges ++ more) (apart names rising) (λ n member. named n (Contains-append_cases (ends_of edges) more n (no_other n member))) in
      let routers = graph.few in
      omega (arith, within, length-append (routers_in edges) more, routers);
} where
  named : (n : ℕ) → Contains (ends_of edges) n ⊎ Contains more n → Contains (routers_in edges ++ more) n
  named n cases = elim cases [ inl end ↦ Contains-append_left (routers_in edges) more n (ends_routers edges n end) | inr further ↦ Contains-append_right (routers_in edges) more n further ]
