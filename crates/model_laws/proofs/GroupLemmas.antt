-- Each value of the cells has one group, with exactly the prefixes of its cells.
use Rattle.std.proofs.Common.{◌≡◌, ◌≢◌, ℕ, Bool, true, not, List, [], ◌∷◌, map, filter, Contains, Option, None, sym, ap, subst, inl, inr, arith}
use Rattle.std.specs.Prelude.{◌↔◌, All, AllPairs}
use Rattle.std.proofs.lemmas.Bool.{cases_Bool, both_ways, not-true}
use Rattle.std.proofs.lemmas.List.Elements.{All-map, All-weaker, filter_passes}
use Rattle.std.proofs.lemmas.List.Kept.{AllPairs-cons, AllPairs-filter}
use Rattle.rcp_base.specs.IpPrefix.{IpPrefix}
use Rattle.rcp_model.specs.Cells.{Cell}
use Rattle.rcp_model.specs.Packing.{same_value, each_once, prefixes_with, Group, group_of, values_of, groups}
use Rattle.rcp_model.proofs.MemberLemmas.{Contains-head, Contains-tail, Contains-cases, Contains-none, filter_member}
use Rattle.rcp_model.proofs.PackingLemmas.{same_value-is, same_value-itself, map-pairs}

abbrev Value : Type 0
Value = Option (List ℕ)

-- ---- values, each once

abbrev is_other : Value → Value → Bool
is_other value other = not (same_value value other)

differs : (v w : Value) → is_other v w ≡ true → v ≢ w
differs v w other same = both_ways (same_value v w) (not-true _ other) (subst (λ x. same_value v x ≡ true) same (same_value-itself v))

each_once-apart : (values : List Value) → AllPairs (λ (v w : Value). v ≢ w) (each_once values)
each_once-apart [] = λ i j d lt within. absurd (omega arith)
each_once-apart (v ∷ values) =
    let later = each_once values in
    AllPairs-cons (λ (a b : Value). a ≢ b) v (filter (is_other v) later)
    (All-weaker (λ (w : Value). is_other v w ≡ true) (λ (w : Value). v ≢ w) (differs v) (filter (is_other v) later) (filter_passes (is_other v) later))
    (AllPairs-filter (λ (a b : Value). a ≢ b) (is_other v) later (each_once-apart values))

each_once-all : (v : Value) (values : List Value) → Contains values v → Contains (each_once values) v
each_once-all v [] member = absurd (Contains-none v member)
each_once-all v (w ∷ values) member =
    let later = filter (is_other w) (each_once values) in
    elim (cases_Bool (same_value w v)) [
      | inl e ↦ subst (λ (x : Value). Contains (w ∷ later) x) (same_value-is w v e) (Contains-head w later)
      | inr e ↦ elim (Contains-cases w values v member) [
        | inl same ↦ absurd (both_ways (same_value w v) e (subst (λ x. same_value w x ≡ true) same (same_value-itself w)))
        | inr rest ↦ Contains-tail w later v (filter_member (is_other w) (each_once values) v (each_once-all v values rest) (ap not e))
      ]
    ]

-- ---- the prefixes of a value

group-cell : (v : Value) (cells : List Cell) (p : IpPrefix) → Contains (prefixes_with v cells) p → Contains cells (p, v)
group-cell v [] p member = absurd (Contains-none p member)
group-cell v (cell ∷ cells) p member =
    elim (cases_Bool (same_value v cell.1)) [
      | inl e ↦ elim (Contains-cases cell.0 (prefixes_with v cells) p (rw e at member)) [
        | inl same ↦ subst (λ (q : IpPrefix). Contains (cell ∷ cells) (q, v)) same
            (subst (λ (w : Value). Contains (cell ∷ cells) (cell.0, w)) (sym (same_value-is v cell.1 e)) (Contains-head cell cells))
        | inr rest ↦ Contains-tail cell cells (p, v) (group-cell v cells p rest)
      ]
      | inr e ↦ Contains-tail cell cells (p, v) (group-cell v cells p (rw e at member))
    ]

cell-group : (v : Value) (cells : List Cell) (p : IpPrefix) → Contains cells (p, v) → Contains (prefixes_with v cells) p
cell-group v [] p member = absurd (Contains-none (p, v) member)
cell-group v (cell ∷ cells) p member = elim (Contains-cases cell cells (p, v) member) [
  | inl same ↦ subst (λ (c : Cell). Contains (prefixes_with c.1 (cell ∷ cells)) c.0) same
      (rw (same_value-itself cell.1) (Contains-head cell.0 (prefixes_with cell.1 cells)))
  | inr rest ↦
      let found = cell-group v cells p rest in
      elim (cases_Bool (same_value v cell.1)) [
        | inl e ↦ rw e (Contains-tail cell.0 (prefixes_with v cells) p found)
        | inr e ↦ rw e found
      ]
]

map_member : {X Y : Type 0} (f : X → Y) (xs : List X) (x : X) → Contains xs x → Contains (map f xs) (f x)
map_member f [] x member = absurd (Contains-none x member)
map_member f (y ∷ xs) x member = elim (Contains-cases y xs x member) [
  | inl same ↦ subst (λ z. Contains (f y ∷ map f xs) (f z)) same (Contains-head (f y) (map f xs))
  | inr rest ↦ Contains-tail (f y) (map f xs) (f x) (map_member f xs x rest)
]

-- ---- groups

abbrev HasItsPrefixes : List Cell → Group → Type 0
HasItsPrefixes cells group = (p : IpPrefix) → Contains group.1 p ↔ Contains cells (p, group.0)

pub groups-distinct : (cells : List Cell) → AllPairs (λ (a b : Group). a.0 ≢ b.0) (groups cells)
unfolding groups
groups-distinct cells =
    map-pairs (λ (a b : Group). a.0 ≢ b.0) (group_of cells) (λ group. group.0) (each_once (None ∷ values_of cells)) (each_once-apart (None ∷ values_of cells))

pub groups-exactly : (cells : List Cell) → All (HasItsPrefixes cells) (groups cells)
unfolding groups
groups-exactly cells =
    All-map (HasItsPrefixes cells) (group_of cells) (each_once (None ∷ values_of cells))
    (λ k d lt p. (group-cell _ cells p, cell-group _ cells p))

pub groups-each : (cells : List Cell) (p : IpPrefix) (value : Value) → Contains cells (p, value) → (prefixes : List IpPrefix) × Contains (groups cells) (value, prefixes)
unfolding groups
groups-each cells p value member =
    let there = Contains-tail None (values_of cells) value (map_member (λ (cell : Cell). cell.1) cells (p, value) member) in
    (prefixes_with value cells, map_member (group_of cells) (each_once (None ∷ values_of cells)) value (each_once-all value (None ∷ values_of cells) there))
