-- The candidates of a slot at a prefix.
use Rattle.std.proofs.Common.{◌≡◌, ◌≢◌, ℕ, zero, suc, ◌+◌, ◌<◌, Bool, true, false, cond, ◌⊎◌, ◌↔◌, List, [], ◌∷◌, length, get_or, Contains, AllPairs, Option, Some, None, IsSome, is_some, slice_get, refl, sym, ap, ◌∙◌, inl, inr, arith, eqb, ne_eqb}
use Rattle.std.proofs.lemmas.Bool.{false≢true, eqb-false}
use Rattle.std.proofs.lemmas.Option.{slice_get_within, get_or_from_slice_get}
use Rattle.std.proofs.lemmas.List.Elements.{Contains-get_or}
use Rattle.rcp_base.specs.declared.names.Member.{Member}
use Rattle.rcp_base.specs.declared.names.Edge.{Edge}
use Rattle.rcp_model.specs.Attributes.{number_width}
use Rattle.rcp_model.specs.Routes.{route_in, is_usable}
use Rattle.rcp_model.specs.Decision.{Contender, contender, tied, IsNearest}
use Rattle.rcp_model.specs.RouteServer.{Domain, Announced, slot_cost, announcement_contender, cons_some, candidates_from, candidates, IsCandidate, choice_of, unless_own, offer}
use Rattle.rcp_model.proofs.FilterLemmas.{choice_none, choice_is_nearest}
use Rattle.rcp_model.proofs.MemberLemmas.{Contains-head, Contains-tail, Contains-cases, Contains-none}

AllPairs-cons : {X : Type 0} (R : X → X → Type 0) (x : X) (xs : List X) → ((y : X) → Contains xs y → R x y) → AllPairs R xs → AllPairs R (x ∷ xs)
AllPairs-cons {X} R x xs first rest i j d less within = at_places i j less within where
  at_places : (i j : ℕ) → i < j → j < length (x ∷ xs) → R (get_or (x ∷ xs) i d) (get_or (x ∷ xs) j d)
  at_places i zero less within = absurd (omega arith)
  at_places zero (suc j) less within = first (get_or xs j d) (Contains-get_or xs j d (omega arith))
  at_places (suc i) (suc j) less within = rest i j d (omega arith) (omega arith)

module _ (domain : Domain) (announced : Announced) (cost_to : ℕ → Option ℕ) where
  -- a candidate among members of which the first has this slot, so many places on
  record From (first : ℕ) (members : List Member) (a : Contender) : Type 0 where
    place : ℕ
    at_place : a.slot ≡ first + place
    member : Member
    seat : slice_get members place ≡ Some member
    octets : List ℕ
    is_announced : announced a.slot ≡ Some octets
    usable : is_usable (route_in number_width domain.as_number octets) ≡ true
    reached : IsSome (cost_to a.slot)
    compared : a ≡ contender a.slot member.bgp_id (route_in number_width domain.as_number octets)

  record Here (slot id : ℕ) (found : Option (List ℕ)) (cost : Option ℕ) (a : Contender) : Type 0 where
    octets : List ℕ
    is_found : found ≡ Some octets
    usable : is_usable (route_in number_width domain.as_number octets) ≡ true
    reached : IsSome cost
    compared : a ≡ contender slot id (route_in number_width domain.as_number octets)

  here_of : (slot id : ℕ) (found : Option (List ℕ)) (cost : Option ℕ) (a : Contender) → announcement_contender domain slot id found cost ≡ Some a → Here slot id found cost a
  here_of slot id None cost a is = absurd (none_some is) where
    none_some : None ≡ Some a → ⊥
    none_some e = cc
  here_of slot id (Some octets) None a is = absurd (none_some is) where
    none_some : None ≡ Some a → ⊥
    none_some e = cc
  here_of slot id (Some octets) (Some n) a is = at_test (is_usable (route_in number_width domain.as_number octets)) refl is where
    at_test : (t : Bool) → is_usable (route_in number_width domain.as_number octets) ≡ t → cond t (Some (contender slot id (route_in number_width domain.as_number octets))) None ≡ Some a → Here slot id (Some octets) (Some n) a
    at_test true usable is = record { octets = octets; is_found = refl; usable = usable; reached = refl; compared = cc }
    at_test false usable is = absurd (none_some is) where
      none_some : None ≡ Some a → ⊥
      none_some e = cc

  of_here : (slot id : ℕ) (found : Option (List ℕ)) (cost : Option ℕ) (a : Contender) → Here slot id found cost a → announcement_contender domain slot id found cost ≡ Some a
  of_here slot id found None a here = absurd (false≢true here.reached)
  of_here slot id found (Some n) a here = rw (here.is_found, here.usable) (ap Some (sym here.compared))

  -- what stands in front of a list where there is something
  Contains-cons_some : (o : Option Contender) (list : List Contender) (a : Contender) → Contains (cons_some o list) a → (o ≡ Some a) ⊎ Contains list a
  Contains-cons_some None list a member = inr member
  Contains-cons_some (Some b) list a member = elim (Contains-cases b list a member) [ inl same ↦ inl (ap Some same) | inr rest ↦ inr rest ]

  cons_some-first : (o : Option Contender) (list : List Contender) (a : Contender) → o ≡ Some a → Contains (cons_some o list) a
  cons_some-first o list a is = rw is (Contains-head a list)

  cons_some-rest : (o : Option Contender) (list : List Contender) (a : Contender) → Contains list a → Contains (cons_some o list) a
  cons_some-rest None list a member = member
  cons_some-rest (Some b) list a member = Contains-tail b list a member

  from_members : (first : ℕ) (members : List Member) (a : Contender) → Contains (candidates_from domain announced cost_to first members) a → From first members a
  from_members first [] a inside = absurd (Contains-none a inside)
  from_members first (member ∷ members) a inside = elim (Contains-cons_some _ (candidates_from domain announced cost_to (suc first) members) a inside) [
    | inl is ↦
        let here = here_of first member.bgp_id (announced first) (cost_to first) a is in
        let same : a.slot ≡ first = ap (λ (c : Contender). c.slot) here.compared in
        record {
          place = 0;
          at_place = omega arith;
          member = member;
          seat = refl;
          octets = here.octets;
          is_announced = ap announced same ∙ here.is_found;
          usable = here.usable;
          reached = ap (λ s. is_some (cost_to s)) same ∙ here.reached;
          compared = here.compared ∙ ap (λ s. contender s member.bgp_id (route_in number_width domain.as_number here.octets)) (sym same);
        }
    | inr rest ↦
        let from = from_members (suc first) members a rest in
        record {
          place = suc from.place;
          at_place = omega arith;
          member = from.member;
          seat = from.seat;
          octets = from.octets;
          is_announced = from.is_announced;
          usable = from.usable;
          reached = from.reached;
          compared = from.compared;
        }
  ]

  member_from : (first : ℕ) (members : List Member) (place : ℕ) (a : Contender) (member : Member) (octets : List ℕ) → a.slot ≡ first + place → slice_get members place ≡ Some member
      → announced a.slot ≡ Some octets → is_usable (route_in number_width domain.as_number octets) ≡ true → IsSome (cost_to a.slot)
      → a ≡ contender a.slot member.bgp_id (route_in number_width domain.as_number octets) → Contains (candidates_from domain announced cost_to first members) a
  member_from first [] place a member octets at seat is_announced usable reached compared = absurd (some_none (sym seat)) where
    some_none : {m : Member} → Some m ≡ None → ⊥
    some_none e = cc
  member_from first (other ∷ members) zero a member octets at seat is_announced usable reached compared =
      let same : a.slot ≡ first = omega arith in
      let is_member : other ≡ member = cc in
      cons_some-first _ (candidates_from domain announced cost_to (suc first) members) a
      (of_here first other.bgp_id (announced first) (cost_to first) a (record {
        octets = octets;
        is_found = ap announced (sym same) ∙ is_announced;
        usable = usable;
        reached = ap (λ s. is_some (cost_to s)) (sym same) ∙ reached;
        compared = compared ∙ ap (λ s. contender s member.bgp_id (route_in number_width domain.as_number octets)) same ∙ ap (λ (m : Member). contender first m.bgp_id (route_in number_width domain.as_number octets)) (sym is_member);
      }))
  member_from first (other ∷ members) (suc place) a member octets at seat is_announced usable reached compared =
      cons_some-rest _ (candidates_from domain announced cost_to (suc first) members) a
      (member_from (suc first) members place a member octets (omega arith) seat is_announced usable reached compared)

  rising : (first : ℕ) (members : List Member) → AllPairs (λ a b. a.slot < b.slot) (candidates_from domain announced cost_to first members)
  rising first [] = λ i j d less within. absurd (omega arith)
  rising first (member ∷ members) = at_head (announcement_contender domain first member.bgp_id (announced first) (cost_to first)) refl (rising (suc first) members) where
    at_head : (o : Option Contender) → announcement_contender domain first member.bgp_id (announced first) (cost_to first) ≡ o
        → AllPairs (λ a b. a.slot < b.slot) (candidates_from domain announced cost_to (suc first) members)
        → AllPairs (λ a b. a.slot < b.slot) (cons_some o (candidates_from domain announced cost_to (suc first) members))
    at_head None is rest = rest
    at_head (Some a) is rest = AllPairs-cons (λ a b. a.slot < b.slot) a (candidates_from domain announced cost_to (suc first) members)
        (λ b inside.
        let same : a.slot ≡ first = ap (λ (c : Contender). c.slot) (here_of first member.bgp_id (announced first) (cost_to first) a is).compared in
        let from = from_members (suc first) members b inside in
        omega (arith, from.at_place, same))
        rest

-- the candidates are exactly the members with a usable announcement and a cost
pub candidate_is : (domain : Domain) (announced : Announced) (edges : List Edge) (slot : ℕ) (a : Contender)
    → Contains (candidates domain announced edges slot) a ↔ IsCandidate domain announced edges slot a
unfolding candidates
candidate_is domain announced edges slot a = (
  is,
  λ candidate. member_from domain announced (slot_cost edges domain.members slot) 0 domain.members a.slot a candidate.member candidate.octets
      (omega arith) candidate.seat candidate.is_announced candidate.usable candidate.reached candidate.compared,
) where
  is : Contains (candidates_from domain announced (slot_cost edges domain.members slot) 0 domain.members) a → IsCandidate domain announced edges slot a
  is inside =
      let from = from_members domain announced (slot_cost edges domain.members slot) 0 domain.members a inside in
      let same : a.slot ≡ from.place = omega (arith, from.at_place) in
      record {
        member = from.member;
        seat = ap (slice_get domain.members) same ∙ from.seat;
        octets = from.octets;
        is_announced = from.is_announced;
        usable = from.usable;
        reached = from.reached;
        compared = from.compared;
      }

-- in roster order
pub candidates_rise : (domain : Domain) (announced : Announced) (edges : List Edge) (slot : ℕ) → AllPairs (λ a b. a.slot < b.slot) (candidates domain announced edges slot)
unfolding candidates
candidates_rise domain announced edges slot = rising domain announced (slot_cost edges domain.members slot) 0 domain.members

-- ---- the choice among them

pub choice_of_none : (domain : Domain) (announced : Announced) (edges : List Edge) (slot : ℕ)
    → (choice_of domain announced edges slot ≡ None) ↔ (candidates domain announced edges slot ≡ [])
unfolding choice_of
choice_of_none domain announced edges slot = choice_none slot (slot_cost edges domain.members slot) (candidates domain announced edges slot)

-- two places of members with distinct identifiers that have one identifier are one place
one_place : (members : List Member) → AllPairs (λ (m n : Member). m.bgp_id ≢ n.bgp_id) members → (s t : ℕ) (m n : Member) → slice_get members s ≡ Some m → slice_get members t ≡ Some n → m.bgp_id ≡ n.bgp_id → s ≡ t
one_place members apart s t m n at_s at_t same = elim (trichotomy s t) [
  | inl less ↦ absurd (apart_at s t m n less at_s at_t same)
  | inr rest ↦ elim rest [ inl equal ↦ equal | inr greater ↦ absurd (apart_at t s n m greater at_t at_s (sym same)) ]
] where
  trichotomy : (s t : ℕ) → (s < t) ⊎ ((s ≡ t) ⊎ (t < s))
  trichotomy s t = grind arith

  apart_at : (s t : ℕ) (m n : Member) → s < t → slice_get members s ≡ Some m → slice_get members t ≡ Some n → m.bgp_id ≡ n.bgp_id → ⊥
  apart_at s t m n less at_s at_t same =
      apart s t m less (slice_get_within members t n at_t)
      (ap (λ (x : Member). x.bgp_id) (get_or_from_slice_get members s m m at_s) ∙ same ∙ ap (λ (x : Member). x.bgp_id) (sym (get_or_from_slice_get members t n m at_t)))

-- distinct identifiers of the members are distinct ones of the candidates
pub candidates_apart : (domain : Domain) (announced : Announced) (edges : List Edge) (slot : ℕ) → AllPairs (λ (m n : Member). m.bgp_id ≢ n.bgp_id) domain.members
    → (a b : Contender) → Contains (candidates domain announced edges slot) a → Contains (candidates domain announced edges slot) b → a.id ≡ b.id → a.slot ≡ b.slot
candidates_apart domain announced edges slot apart a b inside_a inside_b same =
    let first = (candidate_is domain announced edges slot a).0 inside_a in
    let second = (candidate_is domain announced edges slot b).0 inside_b in
    one_place domain.members apart a.slot b.slot first.member second.member first.seat second.seat
    (sym (ap (λ (c : Contender). c.id) first.compared) ∙ same ∙ ap (λ (c : Contender). c.id) second.compared)

-- the nearest tied candidate is the choice, unless the slot's own is tied
pub choice_of_nearest : (domain : Domain) (announced : Announced) (edges : List Edge) (slot : ℕ) (a : Contender) → AllPairs (λ (m n : Member). m.bgp_id ≢ n.bgp_id) domain.members
    → ((b : Contender) → Contains (tied (candidates domain announced edges slot)) b → b.slot ≢ slot)
    → IsNearest (slot_cost edges domain.members slot) (tied (candidates domain announced edges slot)) a
    → choice_of domain announced edges slot ≡ Some a.slot
unfolding choice_of
choice_of_nearest domain announced edges slot a apart others best =
    choice_is_nearest slot (slot_cost edges domain.members slot) (candidates domain announced edges slot) a
    (candidates_apart domain announced edges slot apart)
    (λ b inside. ((candidate_is domain announced edges slot b).0 inside).reached)
    others best

-- what is offered is what the choice announces, and the choice is another slot
pub offer_is : (domain : Domain) (announced : Announced) (edges : List Edge) (slot : ℕ) (octets : List ℕ)
    → (offer domain announced edges slot ≡ Some octets)
    ↔ ((chosen : ℕ) × (choice_of domain announced edges slot ≡ Some chosen) × (chosen ≢ slot) × (announced chosen ≡ Some octets))
unfolding offer
offer_is domain announced edges slot octets =
    (from_offer (choice_of domain announced edges slot), λ is. to_offer (choice_of domain announced edges slot) is.0 is.1 is.2 is.3) where
      from_offer : (o : Option ℕ) → unless_own slot announced o ≡ Some octets
          → (chosen : ℕ) × (o ≡ Some chosen) × (chosen ≢ slot) × (announced chosen ≡ Some octets)
      from_offer None is = absurd (none_some is) where
        none_some : None ≡ Some octets → ⊥
        none_some e = cc
      from_offer (Some chosen) is = at_test (eqb chosen slot) refl is where
        at_test : (t : Bool) → eqb chosen slot ≡ t → cond t None (announced chosen) ≡ Some octets
            → (other : ℕ) × (Some chosen ≡ Some other) × (other ≢ slot) × (announced other ≡ Some octets)
        at_test true same is = absurd (none_some is) where
          none_some : None ≡ Some octets → ⊥
          none_some e = cc
        at_test false differs is = (chosen, refl, eqb-false chosen slot differs, is)

      to_offer : (o : Option ℕ) (chosen : ℕ) → o ≡ Some chosen → chosen ≢ slot → announced chosen ≡ Some octets → unless_own slot announced o ≡ Some octets
      to_offer o chosen is other is_announced = rw (is, ne_eqb chosen slot other) is_announced
