-- The least routers of the partitions that have a router of the roster.
use Rattle.std.proofs.Common.{◌≡◌, ℕ, ◌+◌, ◌<◌, ◌≤◌, Bool, true, false, cond, ◌==◌, ◌⊎◌, ◌↔◌, List, [], ◌∷◌, ◌++◌, length, get_or, take, Contains, Option, Some, None, IsSome, option_map, refl, sym, ap, subst, ◌∙◌, inl, inr, arith, eqb, eq-eqb}
use Rattle.std.proofs.lemmas.Bool.{false≢true}
use Rattle.std.proofs.lemmas.Option.{same_Some, slice_get_within, get_or_from_slice_get}
use Rattle.std.proofs.lemmas.List.{take_more, take_all}
use Rattle.rcp_base.specs.declared.names.Edge.{Edge}
use Rattle.rcp_base.specs.declared.names.Member.{Member}
use Rattle.rcp_model.proofs.MemberLemmas.{Contains-cases, Contains-none}
use Rattle.replica_law.specs.Replicas.{slot_of}
use Rattle.replica_law.specs.Steps.{IsLeastIn, AreLeastOfRoster}
use Rattle.replica_law.proofs.PartitionLemmas.{least-unique}
use Rattle.replica_law.proofs.RankLemmas.{more_cases, more_before, more_last}
use Rattle.replica_law.proofs.RosterLemmas.{member_at, slot_found}

-- ---- members and slots

pub seated : (members : List Member) (m : Member) → Contains members m → IsSome (slot_of members m.router)
seated [] m member = absurd (Contains-none m member)
seated (x ∷ members) m member = at_test (eqb x.router m.router) refl (Contains-cases x members m member) (λ later. seated members m later) where
  some_more : (o : Option ℕ) → IsSome o → IsSome (option_map (λ k. k + 1) o)
  some_more None some = some
  some_more (Some k) some = refl

  at_test : (t : Bool) → eqb x.router m.router ≡ t → (x ≡ m) ⊎ Contains members m → (Contains members m → IsSome (slot_of members m.router))
      → IsSome (cond t (Some 0) (option_map (λ k. k + 1) (slot_of members m.router)))
  at_test true test cases rest = refl
  at_test false test (inl same) rest = absurd (false≢true (sym test ∙ eq-eqb x.router m.router (ap (λ (y : Member). y.router) same)))
  at_test false test (inr later) rest = some_more (slot_of members m.router) (rest later)

pub member_of_slot : (members : List Member) (router : ℕ) → IsSome (slot_of members router) → (m : Member) × Contains members m × (m.router ≡ router)
member_of_slot members router some = by_slot (slot_of members router) refl some where
  by_slot : (o : Option ℕ) → slot_of members router ≡ o → IsSome o → (m : Member) × Contains members m × (m.router ≡ router)
  by_slot None is some = absurd (false≢true some)
  by_slot (Some k) is some =
      let found = member_at members k router (slot_found members router k is).seat in
      (found.0, (k, slice_get_within members k found.0 found.1, get_or_from_slice_get members k found.0 found.0 found.1), found.2)

-- ---- the loop

-- the least routers of the partitions of the members so far
abbrev pub AreLeastsOf : List Edge → List Member → List ℕ → Type 0
AreLeastsOf edges members leasts = (least : ℕ) → Contains leasts least ↔ ((m : Member) × Contains members m × IsLeastIn edges m.router least)

pub leasts_none : (edges : List Edge) (members : List Member) (leasts : List ℕ) → members ≡ [] → leasts ≡ [] → AreLeastsOf edges members leasts
leasts_none edges members leasts none empty least = (
  λ member. absurd (Contains-none least (subst (λ (l : List ℕ). Contains l least) empty member)),
  λ from. absurd (Contains-none from.0 (subst (λ (l : List Member). Contains l from.0) none from.1)),
)

pub leasts_more : (edges : List Edge) (members : List Member) (n : ℕ) (m : Member) (least : ℕ) (leasts more : List ℕ) → AreLeastsOf edges (take n members) leasts → n < length members → m ≡ get_or members n m
    → IsLeastIn edges m.router least → more ≡ leasts ++ least ∷ [] → AreLeastsOf edges (take (n + 1) members) more
leasts_more edges members n m least leasts more before within is is_least more_is other = (
  λ member. elim (more_cases leasts least other (subst (λ (l : List ℕ). Contains l other) more_is member)) [
    | inl earlier ↦ let from = (before other).0 earlier in (from.0, subst (λ (l : List Member). Contains l from.0) (sym taken) (more_before (take n members) m from.0 from.1), from.2)
    | inr same ↦ (m, subst (λ (l : List Member). Contains l m) (sym taken) (more_last (take n members) m), subst (IsLeastIn edges m.router) same is_least)
  ],
  λ from. subst (λ (l : List ℕ). Contains l other) (sym more_is) (elim (more_cases (take n members) m from.0 (subst (λ (l : List Member). Contains l from.0) taken from.1)) [
    | inl earlier ↦ more_before leasts least other ((before other).1 (from.0, earlier, from.2))
    | inr same ↦
        let of_m = subst (λ (x : Member). IsLeastIn edges x.router other) (sym same) from.2 in
        subst (Contains (leasts ++ least ∷ [])) (least-unique edges m.router least other is_least of_m) (more_last leasts least)
  ]),
) where
  taken : take (n + 1) members ≡ take n members ++ m ∷ []
  taken = take_more members n m within ∙ ap (λ (x : Member). take n members ++ x ∷ []) (sym is)

pub leasts_all : (edges : List Edge) (members : List Member) (n : ℕ) (leasts : List ℕ) → AreLeastsOf edges (take n members) leasts → length members ≤ n → AreLeastOfRoster edges members leasts
leasts_all edges members n leasts before all least = (
  λ member.
      let from = (before least).0 member in
      let inside = subst (λ (l : List Member). Contains l from.0) (take_all n members all) from.1 in
      (from.0.router, seated members from.0 inside, from.2),
  λ is.
      let found = member_of_slot members is.0 is.1 in
      (before least).1 (found.0, subst (λ (l : List Member). Contains l found.0) (sym (take_all n members all)) found.1, subst (λ u. IsLeastIn edges u least) (sym found.2) is.2),
)

pub leasts_sorted : (edges : List Edge) (members : List Member) (xs ys : List ℕ) → AreLeastOfRoster edges members xs → ((n : ℕ) → Contains xs n → Contains ys n) → ((n : ℕ) → Contains ys n → Contains xs n)
    → AreLeastOfRoster edges members ys
leasts_sorted edges members xs ys are kept no_other least = (λ member. (are least).0 (no_other least member), λ is. kept least ((are least).1 is))
