-- The candidates of a slot: which they are, how they are listed, and what is tied among them.
use Rattle.std.proofs.Common.{◌≡◌, ℕ, zero, suc, ◌+◌, ◌<◌, ◌≤◌, Bool, true, false, cond, ◌&&◌, eqb, List, [], ◌∷◌, ◌++◌, length, take, get_or, Option, Some, None, is_some, IsSome, refl, sym, ap, subst, ◌∙◌, inl, inr, ◌⊎◌, arith, get_or-set_same, get_or-set_other}
use Rattle.std.specs.Prelude.{◌↔◌, ◌≢◌, Contains, AllPairs, IfSome, slice_get}
use Rattle.std.specs.FinMap as map_of
use Rattle.std.proofs.Math.ListN.{set, length-set}
use Rattle.std.proofs.lemmas.Bool.{false≢true, and_parts, and_from, cases_eq}
use Rattle.rcp_model.proofs.MemberLemmas.{Contains-none, Contains-cases, Contains-head, Contains-tail}
use Rattle.std.proofs.lemmas.List.Elements.{Contains-push, Contains-push_cases, Contains-append_left, Contains-get_or}
use Rattle.std.proofs.lemmas.List.Quantifiers.{all_pairs_push}
use Rattle.std.proofs.lemmas.List.{take_more}
use Rattle.std.proofs.lemmas.Option.{slice_get_within, get_or_from_slice_get}
use Rattle.rcp_base.specs.IpPrefix.{IpPrefix}
use Rattle.rcp_base.specs.declared.names.Member.{Member}
use Rattle.rcp_model.specs.Routes.{RouteFields, is_usable}
use Rattle.rcp_model.specs.Ribs.{RouteNumbers}
use Rattle.rcp_model.specs.Decision.{Contender, contender, tied}
use Rattle.rcp_model.specs.RouteServer.{slot_cost, contender_of, cons_some}
use Rattle.rcp_model.specs.ServerRibs.{Values, Rib, route_reader, value_contender, contenders_from, of_other, offer_of, at_prefix}
use Rattle.rcp_model.proofs.FilterLemmas.{member_of_tied, tied_member}
use Rattle.cost_rows.specs.Views.{ViewOf, identifier_at}
use Rattle.cost_rows.proofs.KeyLemmas.{identifier_is}
use Rattle.egress_rank.specs.Egresses.{AreTiedOf, AreReached, IsEgress, IsMarked}
use Rattle.egress_rank.proofs.EgressLemmas.{egress_choice}
use Rattle.adj_ribs.specs.Bases.{Bases, announced_at, route_of, IsAnnouncer, AreNumbered}
use Rattle.rcs_shard.specs.Settling.{candidates_at, offers_at, IsKept, ReachAlike, chosen_from}

module _ (values : Values RouteFields) (cost_to : ℕ → Option ℕ) where
  abbrev listed_from : ℕ → List Member → List Contender
  listed_from first members = contenders_from (λ (route : RouteFields). route) values cost_to first members

  -- a candidate among members of which the first has this slot, so many places on
  record From (first : ℕ) (members : List Member) (a : Contender) : Type 0 where
    place : ℕ
    at_place : a.slot ≡ first + place
    member : Member
    seat : slice_get members place ≡ Some member
    route : RouteFields
    is_announced : values a.slot ≡ Some route
    usable : is_usable route ≡ true
    reached : IsSome (cost_to a.slot)
    compared : a ≡ contender a.slot member.bgp_id route

  record Here (slot id : ℕ) (found : Option RouteFields) (cost : Option ℕ) (a : Contender) : Type 0 where
    route : RouteFields
    is_found : found ≡ Some route
    usable : is_usable route ≡ true
    reached : IsSome cost
    compared : a ≡ contender slot id route

  none_some : {A : Type 0} (a : A) → None ≡ Some a → ⊥
  none_some a e = cc

  here_of : (slot id : ℕ) (found : Option RouteFields) (cost : Option ℕ) (a : Contender) → value_contender (λ (route : RouteFields). route) slot id found cost ≡ Some a → Here slot id found cost a
  here_of slot id None cost a is = absurd (none_some a is)
  here_of slot id (Some route) None a is = absurd (none_some a is)
  here_of slot id (Some route) (Some n) a is = at_test (is_usable route) refl is where
    at_test : (t : Bool) → is_usable route ≡ t → cond t (Some (contender slot id route)) None ≡ Some a → Here slot id (Some route) (Some n) a
    at_test true usable is = record { route = route; is_found = refl; usable = usable; reached = refl; compared = cc }
    at_test false usable is = absurd (none_some a is)

  of_here : (slot id : ℕ) (found : Option RouteFields) (cost : Option ℕ) (a : Contender) → Here slot id found cost a → value_contender (λ (route : RouteFields). route) slot id found cost ≡ Some a
  of_here slot id found None a here = absurd (false≢true here.reached)
  of_here slot id found (Some n) a here = rw (here.is_found, here.usable) (ap Some (sym here.compared))

  Contains-cons_some : (o : Option Contender) (list : List Contender) (a : Contender) → Contains (cons_some o list) a → (o ≡ Some a) ⊎ Contains list a
  Contains-cons_some None list a member = inr member
  Contains-cons_some (Some b) list a member = elim (Contains-cases b list a member) [ inl same ↦ inl (ap Some same) | inr rest ↦ inr rest ]

  cons_some-first : (o : Option Contender) (list : List Contender) (a : Contender) → o ≡ Some a → Contains (cons_some o list) a
  cons_some-first o list a is = rw is (Contains-head a list)

  cons_some-rest : (o : Option Contender) (list : List Contender) (a : Contender) → Contains list a → Contains (cons_some o list) a
  cons_some-rest None list a member = member
  cons_some-rest (Some b) list a member = Contains-tail b list a member

  from_members : (first : ℕ) (members : List Member) (a : Contender) → Contains (listed_from first members) a → From first members a
  from_members first [] a inside = absurd (Contains-none a inside)
  from_members first (member ∷ members) a inside = elim (Contains-cons_some _ (listed_from (suc first) members) a inside) [
    | inl is ↦
        let here = here_of first member.bgp_id (values first) (cost_to first) a is in
        let same : a.slot ≡ first = ap (λ (c : Contender). c.slot) here.compared in
        record {
          place = 0;
          at_place = omega arith;
          member = member;
          seat = refl;
          route = here.route;
          is_announced = ap values same ∙ here.is_found;
          usable = here.usable;
          reached = ap (λ s. is_some (cost_to s)) same ∙ here.reached;
          compared = here.compared ∙ ap (λ s. contender s member.bgp_id here.route) (sym same);
        }
    | inr rest ↦
        let from = from_members (suc first) members a rest in
        record {
          place = suc from.place;
          at_place = omega arith;
          member = from.member;
          seat = from.seat;
          route = from.route;
          is_announced = from.is_announced;
          usable = from.usable;
          reached = from.reached;
          compared = from.compared;
        }
  ]

  member_from : (first : ℕ) (members : List Member) (place : ℕ) (a : Contender) (member : Member) (route : RouteFields) → a.slot ≡ first + place → slice_get members place ≡ Some member
      → values a.slot ≡ Some route → is_usable route ≡ true → IsSome (cost_to a.slot)
      → a ≡ contender a.slot member.bgp_id route → Contains (listed_from first members) a
  member_from first [] place a member route at seat is_announced usable reached compared = absurd (none_some member seat)
  member_from first (other ∷ members) zero a member route at seat is_announced usable reached compared =
      let same : a.slot ≡ first = omega arith in
      let is_member : other ≡ member = cc in
      cons_some-first _ (listed_from (suc first) members) a
      (of_here first other.bgp_id (values first) (cost_to first) a (record {
        route = route;
        is_found = ap values (sym same) ∙ is_announced;
        usable = usable;
        reached = ap (λ s. is_some (cost_to s)) (sym same) ∙ reached;
        compared = compared ∙ ap (λ s. contender s member.bgp_id route) same ∙ ap (λ (m : Member). contender first m.bgp_id route) (sym is_member);
      }))
  member_from first (other ∷ members) (suc place) a member route at seat is_announced usable reached compared =
      cons_some-rest _ (listed_from (suc first) members) a
      (member_from (suc first) members place a member route (omega arith) seat is_announced usable reached compared)

-- ---- candidates

-- a candidate: a member that is reached, with a usable route
pub record IsCandidateAt (bases : Bases) (view : ViewOf) (p : IpPrefix) (slot : ℕ) (a : Contender) : Type 0 where
  pub within : a.slot < length view.members
  pub route : RouteFields
  pub is_announced : announced_at bases a.slot p ≡ Some route
  pub usable : is_usable route ≡ true
  pub reached : IsSome (slot_cost view.edges view.members slot a.slot)
  pub compared : a ≡ contender a.slot (identifier_at view.members a.slot) route

got : {A : Type 0} (xs : List A) (k : ℕ) (x : A) → k < length xs → slice_get xs k ≡ Some (get_or xs k x)
got [] k x within = absurd (omega arith)
got (y ∷ xs) zero x within = refl
got (y ∷ xs) (suc k) x within = got xs k x (omega arith)

first_of : {A : Type 0} (xs : List A) (k : ℕ) → k < length xs → A
first_of [] k within = absurd (omega arith)
first_of (x ∷ xs) k within = x

module _ (bases : Bases) (view : ViewOf) (p : IpPrefix) (slot : ℕ) where
  pub candidate_of : (a : Contender) → Contains (candidates_at bases view p slot) a → IsCandidateAt bases view p slot a
  candidate_of a inside =
      let from = from_members (at_prefix bases.announced p) (slot_cost view.edges view.members slot) 0 view.members a inside in
      let place : a.slot ≡ from.place = omega (arith, from.at_place) in
      let seat : slice_get view.members a.slot ≡ Some from.member = ap (slice_get view.members) place ∙ from.seat in
      let within = slice_get_within view.members a.slot from.member seat in
      let named = identifier_is view.members a.slot from.member within (sym (get_or_from_slice_get view.members a.slot from.member from.member seat)) in
      record {
        within = within;
        route = from.route;
        is_announced = from.is_announced;
        usable = from.usable;
        reached = from.reached;
        compared = from.compared ∙ ap (λ id. contender a.slot id from.route) (sym named);
      }

  pub candidate_in : (a : Contender) → IsCandidateAt bases view p slot a → Contains (candidates_at bases view p slot) a
  candidate_in a is =
      let member = get_or view.members a.slot (first_of view.members a.slot is.within) in
      let seat = got view.members a.slot (first_of view.members a.slot is.within) is.within in
      let named = identifier_is view.members a.slot member is.within (sym (get_or_from_slice_get view.members a.slot member member seat)) in
      member_from (at_prefix bases.announced p) (slot_cost view.edges view.members slot) 0 view.members a.slot a member is.route
      (omega arith) seat is.is_announced is.usable is.reached (is.compared ∙ ap (λ id. contender a.slot id is.route) named)

  pub candidates_reached : AreReached view.members (slot_cost view.edges view.members slot) (candidates_at bases view p slot)
  candidates_reached a inside =
      let is = candidate_of a inside in
      (ap (λ (c : Contender). c.id) is.compared, is.reached)

-- ---- listing them

-- those whose announcers were passed are listed, and their announcers kept
pub record Listed (bases : Bases) (view : ViewOf) (p : IpPrefix) (slot : ℕ) (passed : List (ℕ × ℕ)) (list : List Contender) (from : List (Option (ℕ × ℕ))) : Type 0 where
  pub sound : (a : Contender) → Contains list a → IsCandidateAt bases view p slot a
  pub kept : (a : Contender) → Contains list a → IsKept bases p from a.slot
  pub complete : (a : Contender) → IsCandidateAt bases view p slot a → (n : ℕ) → Contains passed (a.slot, n) → Contains list a

module _ (bases : Bases) (view : ViewOf) (p : IpPrefix) (slot : ℕ) where
  pub listed_none : (list : List Contender) (from : List (Option (ℕ × ℕ))) → Listed bases view p slot [] (take 0 list) from
  listed_none list from = record {
    sound = λ a inside. absurd (Contains-none a inside);
    kept = λ a inside. absurd (Contains-none a inside);
    complete = λ a is n inside. absurd (Contains-none (a.slot, n) inside);
  }

  module _ (passed : List (ℕ × ℕ)) (list : List Contender) (from : List (Option (ℕ × ℕ))) (listed : Listed bases view p slot passed list from) (e n : ℕ) (route : RouteFields) (is_announced : announced_at bases e p ≡ Some route) where
    -- the route of a candidate of this slot is this one
    route_is : (a : Contender) → a.slot ≡ e → (is : IsCandidateAt bases view p slot a) → is.route ≡ route
    route_is a same is =
        let one : Some is.route ≡ Some route = sym is.is_announced ∙ ap (λ s. announced_at bases s p) same ∙ is_announced in cc

    pub listed_skip : (is_usable route && is_some (slot_cost view.edges view.members slot e)) ≡ false → Listed bases view p slot (passed ++ (e, n) ∷ []) list from
    listed_skip fails = record {
      sound = listed.sound;
      kept = listed.kept;
      complete = λ a is m inside. elim (Contains-push_cases passed (e, n) (a.slot, m) inside) [
        | inl before ↦ listed.complete a is m before
        | inr same ↦
            let here : a.slot ≡ e = ap (λ (x : ℕ × ℕ). x.0) (sym same) in
            absurd (false≢true (sym fails ∙ and_from (is_usable route) (is_some (slot_cost view.edges view.members slot e))
            (ap is_usable (sym (route_is a here is)) ∙ is.usable) (ap (λ s. is_some (slot_cost view.edges view.members slot s)) (sym here) ∙ is.reached)))
      ];
    }

    pub listed_more : (x : Contender) → (is_usable route && is_some (slot_cost view.edges view.members slot e)) ≡ true → IsAnnouncer bases p (e, n) → e < length view.members
        → length from ≡ length view.members → x ≡ contender e (identifier_at view.members e) route
        → Listed bases view p slot (passed ++ (e, n) ∷ []) (list ++ x ∷ []) (set from e (Some (e, n)))
    listed_more x passes announces within room is_x = record {
      sound = λ a inside. elim (Contains-push_cases list x a inside) [
        | inl before ↦ listed.sound a before
        | inr same ↦ subst (IsCandidateAt bases view p slot) same new
      ];
      kept = λ a inside. elim (Contains-push_cases list x a inside) [
        | inl before ↦ elim (cases_eq a.slot e) [
          | inl here ↦ subst (IsKept bases p (set from e (Some (e, n)))) (sym here) new_kept
          | inr other ↦ let was = listed.kept a before in record {
            number = was.number;
            here = set_other a.slot other (Some (a.slot, was.number)) was.here;
            announces = was.announces;
          }
        ]
        | inr same ↦ subst (IsKept bases p (set from e (Some (e, n)))) (sym slot_is ∙ ap (λ (c : Contender). c.slot) same) new_kept
      ];
      complete = λ a is m inside. elim (Contains-push_cases passed (e, n) (a.slot, m) inside) [
        | inl before ↦ Contains-append_left list (x ∷ []) a (listed.complete a is m before)
        | inr same ↦
            let here : a.slot ≡ e = ap (λ (y : ℕ × ℕ). y.0) (sym same) in
            subst (Contains (list ++ x ∷ []))
            (is_x ∙ (λ i. contender (sym here i) (identifier_at view.members (sym here i)) (sym (route_is a here is) i)) ∙ sym is.compared)
            (Contains-push list x)
      ];
    } where
      slot_is : x.slot ≡ e
      slot_is = ap (λ (c : Contender). c.slot) is_x

      both : (is_usable route ≡ true) × (is_some (slot_cost view.edges view.members slot e) ≡ true)
      both = and_parts (is_usable route) (is_some (slot_cost view.edges view.members slot e)) passes

      new : IsCandidateAt bases view p slot x
      new = record {
        within = omega (arith, slot_is);
        route = route;
        is_announced = ap (λ s. announced_at bases s p) slot_is ∙ is_announced;
        usable = both.0;
        reached = ap (λ s. is_some (slot_cost view.edges view.members slot s)) slot_is ∙ both.1;
        compared = is_x ∙ (λ i. contender (sym slot_is i) (identifier_at view.members (sym slot_is i)) route);
      }

      set_here : slice_get (set from e (Some (e, n))) e ≡ Some (Some (e, n))
      set_here =
          let inside : e < length from = omega (arith, room) in
          got (set from e (Some (e, n))) e None (omega (arith, length-set from e (Some (e, n)), inside))
          ∙ ap Some (get_or-set_same from e (Some (e, n)) None inside)

      set_other : (k : ℕ) → (k ≡ e → ⊥) → (found : Option (ℕ × ℕ)) → slice_get from k ≡ Some found → slice_get (set from e (Some (e, n))) k ≡ Some found
      set_other k other found is =
          let inside = slice_get_within from k found is in
          got (set from e (Some (e, n))) k None (omega (arith, length-set from e (Some (e, n)), inside))
          ∙ ap Some (get_or-set_other from e k (Some (e, n)) None other ∙ get_or_from_slice_get from k found None is)

      new_kept : IsKept bases p (set from e (Some (e, n))) e
      new_kept = record { number = n; here = set_here; announces = announces }

  -- all announcers were passed
  pub listed_all : (passed : List (ℕ × ℕ)) (list : List Contender) (from : List (Option (ℕ × ℕ))) → ((s n : ℕ) → Contains passed (s, n) ↔ IsAnnouncer bases p (s, n))
      → AreNumbered bases.numbers bases.announced → Listed bases view p slot passed list from → (a : Contender) → Contains list a ↔ Contains (candidates_at bases view p slot) a
  listed_all passed list from each numbered listed a = (
    (λ inside. candidate_in bases view p slot a (listed.sound a inside)),
    (λ inside.
        let is = candidate_of bases view p slot a inside in
        let some = numbered.held (p, a.slot) ∙ ap is_some is.is_announced in
        let found = value_of (map_of.get bases.numbers (p, a.slot)) some in
        listed.complete a is found.0 ((each a.slot found.0).1 found.1)),
  ) where
    value_of : (o : Option ℕ) → is_some o ≡ true → (n : ℕ) × (o ≡ Some n)
    value_of None some = absurd (false≢true some)
    value_of (Some n) some = (n, refl)

-- ---- the same candidates

pub tied_same : (xs ys : List Contender) → ((a : Contender) → Contains xs a ↔ Contains ys a) → (a : Contender) → Contains (tied xs) a → Contains (tied ys) a
tied_same xs ys same a inside =
    let both = member_of_tied xs a inside in
    tied_member ys a ((same a).0 both.0) (λ b member. both.1 b ((same b).1 member))

-- slots that reach the same members have the same candidates
module _ (values : Values RouteFields) (cost other : ℕ → Option ℕ) (alike : (e : ℕ) → is_some (cost e) ≡ is_some (other e)) where
  one_alike : (slot id : ℕ) (route : RouteFields) (a b : Option ℕ) → is_some a ≡ is_some b → contender_of slot id route a ≡ contender_of slot id route b
  one_alike slot id route None None same = refl
  one_alike slot id route (Some m) (Some n) same = refl
  one_alike slot id route None (Some n) same = absurd (false≢true same)
  one_alike slot id route (Some m) None same = absurd (false≢true (sym same))

  value_alike : (slot id : ℕ) (found : Option RouteFields) → value_contender (λ (route : RouteFields). route) slot id found (cost slot) ≡ value_contender (λ (route : RouteFields). route) slot id found (other slot)
  value_alike slot id None = refl
  value_alike slot id (Some route) = one_alike slot id route (cost slot) (other slot) (alike slot)

  pub contenders_alike : (first : ℕ) (members : List Member) → contenders_from (λ (route : RouteFields). route) values cost first members ≡ contenders_from (λ (route : RouteFields). route) values other first members
  contenders_alike first [] = refl
  contenders_alike first (member ∷ members) = λ i. cons_some (value_alike first member.bgp_id (values first) i) (contenders_alike (suc first) members i)

pub candidates_alike : (bases : Bases) (view : ViewOf) (p : IpPrefix) (a b : ℕ) → ReachAlike view a b → candidates_at bases view p a ≡ candidates_at bases view p b
candidates_alike bases view p a b alike =
    contenders_alike (at_prefix bases.announced p) (slot_cost view.edges view.members a) (slot_cost view.edges view.members b) alike 0 view.members

-- ---- places

-- where slots rise, the slot at a place isn't below it
pub place_low : (items : List (ℕ × ℕ)) → AllPairs (λ (a b : ℕ × ℕ). a.0 < b.0) items → (d : ℕ × ℕ) (i : ℕ) → i < length items → i ≤ (get_or items i d).0
place_low items rising d zero within = omega arith
place_low items rising d (suc i) within =
    let before : i ≤ (get_or items i d).0 = place_low items rising d i (omega arith) in
    let less : (get_or items i d).0 < (get_or items (suc i) d).0 = rising i (suc i) d (omega arith) within in
    omega arith

-- ---- the egress among the tied ones

module _ (bases : Bases) (view : ViewOf) (p : IpPrefix) (slot : ℕ) (from : List (Option (ℕ × ℕ))) (slots : List ℕ) (kept : (e : ℕ) → Contains slots e → IsKept bases p from e) where
  abbrev Egress : Option ℕ → Type 0
  Egress egress = IsEgress view.members (slot_cost view.edges view.members slot) slot (Contains slots) egress

  pub egress_within : (egress : Option ℕ) → Egress egress → IfSome egress (λ e. e < length from)
  egress_within None is = tt
  egress_within (Some e) is = let k = kept e is.0 in slice_get_within from e (Some (e, k.number)) k.here

  found : (e : ℕ) → Contains slots e → (n : ℕ) × (get_or from e None ≡ Some (e, n)) × IsAnnouncer bases p (e, n)
  found e inside = let k = kept e inside in (k.number, get_or_from_slice_get from e (Some (e, k.number)) None k.here, k.announces)

  pub chosen_announces : (egress : Option ℕ) → Egress egress → IfSome (chosen_from slot egress from) (IsAnnouncer bases p)
  chosen_announces None is = tt
  chosen_announces (Some e) is = at_test (eqb e slot) where
    at_test : (t : Bool) → IfSome (cond t None (get_or from e None)) (IsAnnouncer bases p)
    at_test true = tt
    at_test false = let f = found e is.0 in subst (λ (o : Option (ℕ × ℕ)). IfSome o (IsAnnouncer bases p)) (sym f.1) f.2

  pub chosen_value : (egress : Option ℕ) → Egress egress → route_of bases p (chosen_from slot egress from) ≡ of_other slot (at_prefix bases.announced p) egress
  chosen_value None is = refl
  chosen_value (Some e) is = at_test (eqb e slot) where
    at_test : (t : Bool) → route_of bases p (cond t None (get_or from e None)) ≡ cond t None (at_prefix bases.announced p e)
    at_test true = refl
    at_test false = ap (route_of bases p) (found e is.0).1

  pub egress_offer : (egress : Option ℕ) → AreTiedOf (candidates_at bases view p slot) (Contains slots) → Egress egress
      → of_other slot (at_prefix bases.announced p) egress ≡ offers_at bases view p slot
  unfolding offer_of
  egress_offer egress tied is =
      ap (of_other slot (at_prefix bases.announced p))
      (egress_choice view.members (slot_cost view.edges view.members slot) slot (candidates_at bases view p slot) (Contains slots) egress tied (candidates_reached bases view p slot) is)

-- ---- the marked ones up to a place

abbrev pub MarkedBefore : List Contender → List Bool → ℕ → ℕ → Type 0
MarkedBefore list marks place e = (a : Contender) × Contains (take place list) a × IsMarked marks a.slot × (a.slot ≡ e)

module _ (list : List Contender) (marks : List Bool) (place : ℕ) (x : Contender) (within : place < length list) (is_x : x ≡ get_or list place x) where
  more : take (place + 1) list ≡ take place list ++ x ∷ []
  more = take_more list place x within ∙ ap (λ (y : Contender). take place list ++ y ∷ []) (sym is_x)

  pub before_skip : (slots : List ℕ) → (IsMarked marks x.slot → ⊥) → ((e : ℕ) → Contains slots e ↔ MarkedBefore list marks place e) → (e : ℕ) → Contains slots e ↔ MarkedBefore list marks (place + 1) e
  before_skip slots unmarked are e = (
    (λ inside. let t = (are e).0 inside in (t.0, subst (λ (l : List Contender). Contains l t.0) (sym more) (Contains-append_left (take place list) (x ∷ []) t.0 t.1), t.2, t.3)),
    (λ t. elim (Contains-push_cases (take place list) x t.0 (subst (λ (l : List Contender). Contains l t.0) more t.1)) [
      | inl before ↦ (are e).1 (t.0, before, t.2, t.3)
      | inr same ↦ absurd (unmarked (subst (λ (a : Contender). IsMarked marks a.slot) (sym same) t.2))
    ]),
  )

  pub before_more : (slots : List ℕ) → IsMarked marks x.slot → ((e : ℕ) → Contains slots e ↔ MarkedBefore list marks place e) → (e : ℕ) → Contains (slots ++ x.slot ∷ []) e ↔ MarkedBefore list marks (place + 1) e
  before_more slots is_marked are e = (
    (λ inside. elim (Contains-push_cases slots x.slot e inside) [
      | inl before ↦ let t = (are e).0 before in (t.0, subst (λ (l : List Contender). Contains l t.0) (sym more) (Contains-append_left (take place list) (x ∷ []) t.0 t.1), t.2, t.3)
      | inr same ↦ (x, subst (λ (l : List Contender). Contains l x) (sym more) (Contains-push (take place list) x), is_marked, same)
    ]),
    (λ t. elim (Contains-push_cases (take place list) x t.0 (subst (λ (l : List Contender). Contains l t.0) more t.1)) [
      | inl before ↦ Contains-append_left slots (x.slot ∷ []) e ((are e).1 (t.0, before, t.2, t.3))
      | inr same ↦ subst (Contains (slots ++ x.slot ∷ [])) (ap (λ (c : Contender). c.slot) same ∙ t.3) (Contains-push slots x.slot)
    ]),
  )

-- the mark at the slot of the element at a place
pub mark_there : (marks : List Bool) (slot : ℕ) (mark : Bool) → slot < length marks → mark ≡ get_or marks slot mark → slice_get marks slot ≡ Some mark
mark_there marks slot mark within is = got marks slot mark within ∙ ap Some (sym is)

-- ---- distinct slots

-- the slots of what is listed rise, and are below those of the announcers to come
pub record Rises (items : List (ℕ × ℕ)) (index : ℕ) (list : List Contender) : Type 0 where
  pub rising : AllPairs (λ (a b : Contender). a.slot < b.slot) list
  pub below : (a : Contender) → Contains list a → (k : ℕ) (d : ℕ × ℕ) → index ≤ k → k < length items → a.slot < (get_or items k d).0

pub rises_none : (items : List (ℕ × ℕ)) (list : List Contender) → Rises items 0 (take 0 list)
rises_none items list = record {
  rising = λ i j d less within. absurd (omega arith);
  below = λ a inside. absurd (Contains-none a inside);
}

pub rises_skip : (items : List (ℕ × ℕ)) (i : ℕ) (list : List Contender) → Rises items i list → Rises items (i + 1) list
rises_skip items i list rises = record { rising = rises.rising; below = λ a inside k d past. rises.below a inside k d (omega arith) }

pub rises_more : (items : List (ℕ × ℕ)) → AllPairs (λ (a b : ℕ × ℕ). a.0 < b.0) items → (i : ℕ) (item : ℕ × ℕ) → i < length items → item ≡ get_or items i item
    → (list : List Contender) (x : Contender) → x.slot ≡ item.0 → Rises items i list → Rises items (i + 1) (list ++ x ∷ [])
rises_more items ordered i item within is_item list x slot_is rises = record {
  rising = all_pairs_push (λ (a b : Contender). a.slot < b.slot) list x rises.rising (λ k d inside.
      let less = rises.below (get_or list k d) (Contains-get_or list k d inside) i item (omega arith) within in
      omega (arith, less, ap (λ (y : ℕ × ℕ). y.0) is_item, slot_is));
  below = λ a inside k d past later. elim (Contains-push_cases list x a inside) [
    | inl before ↦ rises.below a before k d (omega arith) later
    | inr same ↦
        let here : get_or items i d ≡ item = get_or_from_slice_get items i item d (got items i item within ∙ ap Some (sym is_item)) in
        let less : (get_or items i d).0 < (get_or items k d).0 = ordered i k d (omega arith) later in
        omega (arith, less, ap (λ (y : ℕ × ℕ). y.0) here, slot_is, ap (λ (c : Contender). c.slot) same)
  ];
}

pub rises_apart : (items : List (ℕ × ℕ)) (i : ℕ) (list : List Contender) → Rises items i list → AllPairs (λ (a b : Contender). a.slot ≢ b.slot) list
rises_apart items i list rises j k d less within same = omega (arith, rises.rising j k d less within, same)

-- the same, said of equal lists
pub listed_to : (bases : Bases) (view : ViewOf) (p : IpPrefix) (slot : ℕ) (passed new_passed : List (ℕ × ℕ)) (list new_list : List Contender) (from new_from : List (Option (ℕ × ℕ)))
    → new_passed ≡ passed → new_list ≡ list → new_from ≡ from → Listed bases view p slot passed list from → Listed bases view p slot new_passed new_list new_from
listed_to bases view p slot passed new_passed list new_list from new_from a b c listed =
    subst (λ (x : List (ℕ × ℕ) × List Contender × List (Option (ℕ × ℕ))). Listed bases view p slot x.0 x.1 x.2) (λ i. (sym a i, sym b i, sym c i)) listed

-- the number at a place
pub number_there : (xs : List ℕ) (k x : ℕ) → k < length xs → x ≡ get_or xs k x → get_or xs k 0 ≡ x
number_there xs k x within is = get_or_from_slice_get xs k x 0 (got xs k x within ∙ ap Some (sym is))

pub kept_still : (bases now : Bases) (p : IpPrefix) (from : List (Option (ℕ × ℕ))) (e : ℕ) → now.numbers ≡ bases.numbers → IsKept bases p from e → IsKept now p from e
kept_still bases now p from e same kept = record {
  number = kept.number;
  here = kept.here;
  announces = ap (λ (n : RouteNumbers). map_of.get n (p, e)) same ∙ kept.announces;
}

pub candidates_still : (bases now : Bases) (view : ViewOf) (p : IpPrefix) (slot : ℕ) → now.announced ≡ bases.announced → candidates_at now view p slot ≡ candidates_at bases view p slot
candidates_still bases now view p slot same =
    ap (λ (rib : Rib RouteFields). contenders_from (λ (route : RouteFields). route) (at_prefix rib p) (slot_cost view.edges view.members slot) 0 view.members) same

pub offers_still : (bases now : Bases) (view : ViewOf) (p : IpPrefix) → now.announced ≡ bases.announced → offers_at now view p ≡ offers_at bases view p
offers_still bases now view p same = ap (λ (rib : Rib RouteFields). offer_of (route_reader view.members) (at_prefix rib p) view.edges) same
