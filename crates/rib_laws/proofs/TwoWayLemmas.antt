-- The edges of any link state and of links in both directions come in both directions.
use Rattle.std.proofs.Common.{◌≡◌, ℕ, cond, List, [], ◌∷◌, ◌++◌, Contains, Option, Some, None, is_some, sym, ap, ◌⊎◌, inl, inr, subst}
use Rattle.std.specs.List.{flat_map}
use Rattle.std.proofs.lemmas.List.Elements.{Contains-append_left, Contains-append_right, Contains-append_cases}
use Rattle.rcp_base.specs.declared.names.Edge.{Edge}
use Rattle.rcp_model.specs.LinkState.{Kept, LinkState}
use Rattle.rcp_model.specs.Edges.{metric_to, two_way, learned, include_edge, rising_edges, edges_of}
use Rattle.rcp_model.specs.Costs.{IsTwoWay}
use Rattle.rcp_model.proofs.MemberLemmas.{Contains-head, Contains-tail, Contains-cases, Contains-none}
use Rattle.rcp_model.proofs.GraphLemmas.{include-member, member_of_include}

flat_member : {X Y : Type 0} (f : X → List Y) (xs : List X) (x : X) (y : Y) → Contains xs x → Contains (f x) y → Contains (flat_map f xs) y
flat_member f [] x y inside member = absurd (Contains-none x inside)
flat_member {X} f (a ∷ xs) x y inside member = at_place (Contains-cases a xs x inside) (λ later. flat_member f xs x y later member) where
  at_place : (a ≡ x) ⊎ Contains xs x → (Contains xs x → Contains (flat_map f xs) y) → Contains (f a ++ flat_map f xs) y
  at_place (inl same) rest = Contains-append_left (f a) (flat_map f xs) y (subst (λ b. Contains (f b) y) (sym same) member)
  at_place (inr later) rest = Contains-append_right (f a) (flat_map f xs) y (rest later)

member_of_flat : {X Y : Type 0} (f : X → List Y) (xs : List X) (y : Y) → Contains (flat_map f xs) y → (x : X) × Contains xs x × Contains (f x) y
member_of_flat f [] y member = absurd (Contains-none y member)
member_of_flat {X} f (a ∷ xs) y member = at_place (Contains-append_cases (f a) (flat_map f xs) y member) (member_of_flat f xs y) where
  at_place : Contains (f a) y ⊎ Contains (flat_map f xs) y → (Contains (flat_map f xs) y → (x : X) × Contains xs x × Contains (f x) y) → (x : X) × Contains (a ∷ xs) x × Contains (f x) y
  at_place (inl here) rest = (a, Contains-head a xs, here)
  at_place (inr later) rest = let found = rest later in (found.0, Contains-tail a xs found.0 found.1, found.2)

-- ---- two routers that list each other

-- an edge of one is matched by one of the other
matched : (u v : Kept) (there back : Option ℕ) (edge : Edge)
    → Contains (elim there as (λ _. List Edge) [ None ↦ [] | Some cost ↦ cond (is_some back) (record { from = u.lsa.key; to = v.lsa.key; cost = cost } ∷ []) [] ]) edge
    → (other : Edge) × Contains (elim back as (λ _. List Edge) [ None ↦ [] | Some cost ↦ cond (is_some there) (record { from = v.lsa.key; to = u.lsa.key; cost = cost } ∷ []) [] ]) other
    × (other.from ≡ edge.to) × (other.to ≡ edge.from)
matched u v None back edge inside = absurd (Contains-none edge inside)
matched u v (Some there) None edge inside = absurd (Contains-none edge inside)
matched u v (Some there) (Some back) edge inside = at_place (Contains-cases here [] edge inside) where
  here : Edge
  here = record { from = u.lsa.key; to = v.lsa.key; cost = there }

  other : Edge
  other = record { from = v.lsa.key; to = u.lsa.key; cost = back }

  at_place : (here ≡ edge) ⊎ Contains [] edge → (other : Edge) × Contains (record { from = v.lsa.key; to = u.lsa.key; cost = back } ∷ []) other × (other.from ≡ edge.to) × (other.to ≡ edge.from)
  at_place (inl is) = (other, Contains-head other [], ap (λ (e : Edge). e.to) is, ap (λ (e : Edge). e.from) is)
  at_place (inr none) = absurd (Contains-none edge none)

pub learned-two_way : (state : LinkState) → IsTwoWay (learned state)
learned-two_way state edge inside =
    let first = member_of_flat (λ (u : ℕ × Kept). flat_map (λ (v : ℕ × Kept). two_way u.1 v.1) state.routers) state.routers edge inside in
    let second = member_of_flat (λ (v : ℕ × Kept). two_way first.0.1 v.1) state.routers edge first.2 in
    let u = first.0 in
    let v = second.0 in
    let back = matched u.1 v.1 (metric_to v.1.lsa.key u.1.lsa.content) (metric_to u.1.lsa.key v.1.lsa.content) edge second.2 in (
      back.0,
      flat_member (λ (a : ℕ × Kept). flat_map (λ (b : ℕ × Kept). two_way a.1 b.1) state.routers) state.routers v back.0 second.1
          (flat_member (λ (b : ℕ × Kept). two_way v.1 b.1) state.routers u back.0 first.1 back.1),
      back.2,
      back.3,
    )

-- ---- sorted, each once

rising_member : (edges : List Edge) (edge : Edge) → Contains edges edge → Contains (rising_edges edges) edge
rising_member [] edge inside = absurd (Contains-none edge inside)
rising_member (a ∷ edges) edge inside = at_place (Contains-cases a edges edge inside) (rising_member edges edge) where
  at_place : (a ≡ edge) ⊎ Contains edges edge → (Contains edges edge → Contains (rising_edges edges) edge) → Contains (include_edge a (rising_edges edges)) edge
  at_place (inl is) rest = include-member a (rising_edges edges) edge (inl is)
  at_place (inr later) rest = include-member a (rising_edges edges) edge (inr (rest later))

member_of_rising : (edges : List Edge) (edge : Edge) → Contains (rising_edges edges) edge → Contains edges edge
member_of_rising [] edge inside = absurd (Contains-none edge inside)
member_of_rising (a ∷ edges) edge inside = at_place (member_of_include a (rising_edges edges) edge inside) (member_of_rising edges edge) where
  at_place : (a ≡ edge) ⊎ Contains (rising_edges edges) edge → (Contains (rising_edges edges) edge → Contains edges edge) → Contains (a ∷ edges) edge
  at_place (inl is) rest = subst (Contains (a ∷ edges)) is (Contains-head a edges)
  at_place (inr later) rest = Contains-tail a edges edge (rest later)

pub edges-two_way : (state : LinkState) (fixed : List Edge) → IsTwoWay fixed → IsTwoWay (edges_of state fixed)
unfolding edges_of
edges-two_way state fixed both edge inside = at_place (Contains-append_cases (learned state) fixed edge (member_of_rising (learned state ++ fixed) edge inside)) where
  at_place : Contains (learned state) edge ⊎ Contains fixed edge → (back : Edge) × Contains (rising_edges (learned state ++ fixed)) back × (back.from ≡ edge.to) × (back.to ≡ edge.from)
  at_place (inl heard) = let back = learned-two_way state edge heard in
      (back.0, rising_member (learned state ++ fixed) back.0 (Contains-append_left (learned state) fixed back.0 back.1), back.2, back.3)
  at_place (inr set) = let back = both edge set in
      (back.0, rising_member (learned state ++ fixed) back.0 (Contains-append_right (learned state) fixed back.0 back.1), back.2, back.3)
