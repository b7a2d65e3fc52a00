-- Rosters: the slot of a router, and what stands there.
use Rattle.std.proofs.Common.{◌≡◌, ◌≢◌, ℕ, zero, suc, ◌+◌, ◌<◌, ◌≤◌, ◌++◌, Bool, true, false, cond, ◌==◌, ◌⊎◌, List, [], ◌∷◌, length, get_or, take, AllPairs, Option, Some, None, IfSome, option_map, refl, sym, ap, ap₂, subst, ◌∙◌, inl, inr, arith, eqb, eq-eqb, eqb-true, ne_eqb, add-one}
use Rattle.std.specs.Prelude.{slice_get}
use Rattle.std.specs.BTreeMap as tree
use Rattle.std.specs.BTreeMap.{BTreeMap}
use Rattle.std.specs.Ordering.{nat_cmp, is_eq}
use Rattle.std.proofs.lemmas.Bool.Decides.{nat_tests}
use Rattle.std.proofs.lemmas.List.{take_more, take_all}
use Rattle.std.proofs.lemmas.Bool.{false≢true}
use Rattle.std.proofs.lemmas.Option.{same_Some, none-some, slice_get_within, slice_get_read, get_or_from_slice_get}
use Rattle.rcp_base.specs.declared.names.Member.{Member}
use Rattle.rcp_model.specs.RouteServer.{router_at}
use Rattle.replica_law.specs.Replicas.{slot_of, identifier_of}
use Rattle.replica_law.specs.Steps.{AreSlots}

abbrev pub AreApart : List Member → Type 0
AreApart members = AllPairs (λ a b. a.router ≢ b.router) members

pub router-get : (members : List Member) (slot : ℕ) → router_at members slot ≡ option_map (λ (m : Member). m.router) (slice_get members slot)
router-get [] slot = refl
router-get (m ∷ members) zero = refl
router-get (m ∷ members) (suc slot) = router-get members slot

-- a router that has a slot has a member there
pub member_at : (members : List Member) (slot router : ℕ) → router_at members slot ≡ Some router → (m : Member) × (slice_get members slot ≡ Some m) × (m.router ≡ router)
member_at [] slot router is = absurd (none-some _ is)
member_at (m ∷ members) zero router is = (m, refl, same_Some _ _ is)
member_at (m ∷ members) (suc slot) router is = member_at members slot router is

seat_is : (members : List Member) (slot router : ℕ) (d : Member) → router_at members slot ≡ Some router → (slot < length members) × ((get_or members slot d).router ≡ router)
seat_is [] slot router d is = absurd (none-some _ is)
seat_is (member ∷ members) zero router d is = (omega arith, same_Some _ _ is)
seat_is (member ∷ members) (suc slot) router d is = let rest = seat_is members slot router d is in (omega (arith, rest.0), rest.1)

apart-tail : (m : Member) (members : List Member) → AreApart (m ∷ members) → AreApart members
apart-tail m members apart = λ i j d less within. apart (suc i) (suc j) d (omega (arith, less)) (omega (arith, within))

apart-head : (m : Member) (members : List Member) (slot router : ℕ) → AreApart (m ∷ members) → router_at members slot ≡ Some router → m.router ≢ router
apart-head m members slot router apart is =
    let seat = seat_is members slot router m is in
    subst (λ r. m.router ≢ r) seat.1 (apart 0 (suc slot) m (omega arith) (omega (arith, seat.0)))

one_more : (k : ℕ) → Some (k + 1) ≡ Some (suc k)
one_more k = ap Some (add-one k)

-- with distinct routers, a router's slot is where it stands
pub slot_at : (members : List Member) → AreApart members → (slot router : ℕ) → router_at members slot ≡ Some router → slot_of members router ≡ Some slot
slot_at [] apart slot router is = absurd (none-some _ is)
slot_at (m ∷ members) apart zero router is = rw (eq-eqb m.router router (same_Some _ _ is)) refl
slot_at (m ∷ members) apart (suc slot) router is =
    rw (ne_eqb m.router router (apart-head m members slot router apart is), slot_at members (apart-tail m members apart) slot router is) (one_more slot)

-- a slot that is found has the router, and its member has the identifier
pub record IsSeat (members : List Member) (router slot : ℕ) : Type 0 where
  pub seat : router_at members slot ≡ Some router
  pub member : Member
  pub there : slice_get members slot ≡ Some member
  pub identity : identifier_of members router ≡ Some member.bgp_id

pub slot_found : (members : List Member) (router slot : ℕ) → slot_of members router ≡ Some slot → IsSeat members router slot
slot_found [] router slot is = absurd (none-some _ is)
slot_found (m ∷ members) router slot is = at_test (eqb m.router router) (eqb-true m.router router) refl (λ k some. slot_found members router k some) is where
  at_tail : (o : Option ℕ) → slot_of members router ≡ o → ((k : ℕ) → slot_of members router ≡ Some k → IsSeat members router k) → option_map (λ k. k + 1) o ≡ Some slot → eqb m.router router ≡ false
      → IsSeat (m ∷ members) router slot
  at_tail None none later is test = absurd (none-some _ is)
  at_tail (Some k) some later is test =
      let rest = later k some in
      let same : suc k ≡ slot = same_Some _ _ (sym (one_more k) ∙ is) in
      subst (λ s. IsSeat (m ∷ members) router s) same record {
        seat = rest.seat;
        member = rest.member;
        there = rest.there;
        identity = rw test rest.identity;
      }

  at_test : (t : Bool) → (t ≡ true → m.router ≡ router) → eqb m.router router ≡ t → ((k : ℕ) → slot_of members router ≡ Some k → IsSeat members router k)
      → cond t (Some 0) (option_map (λ k. k + 1) (slot_of members router)) ≡ Some slot → IsSeat (m ∷ members) router slot
  at_test true same test later is = subst (λ s. IsSeat (m ∷ members) router s) (same_Some _ _ is) record {
    seat = ap Some (same refl);
    member = m;
    there = refl;
    identity = rw test refl;
  }
  at_test false same test later is = at_tail (slot_of members router) refl later is test

-- a router with an identifier has a slot
pub identified : (members : List Member) (router id : ℕ) → identifier_of members router ≡ Some id → (slot : ℕ) × (slot_of members router ≡ Some slot)
identified [] router id is = absurd (none-some _ is)
identified (m ∷ members) router id is = at_test (eqb m.router router) refl (λ rest. identified members router id rest) is where
  at_test : (t : Bool) → eqb m.router router ≡ t → (identifier_of members router ≡ Some id → (slot : ℕ) × (slot_of members router ≡ Some slot)) → cond t (Some m.bgp_id) (identifier_of members router) ≡ Some id → (slot : ℕ) × (slot_of (m ∷ members) router ≡ Some slot)
  at_test true test later is = (0, rw test refl)
  at_test false test later is = let rest = later is in (rest.0 + 1, rw (test, rest.1) refl)

-- ---- the slots of the first members

-- the slot of a further member is its place
pub slot_next : (members : List Member) → AreApart members → (n : ℕ) (m : Member) → slice_get members n ≡ Some m → (router : ℕ)
    → slot_of (take (suc n) members) router ≡ cond (eqb m.router router) (Some n) (slot_of (take n members) router)
slot_next [] apart n m at router = absurd (none-some _ at)
slot_next (x ∷ members) apart zero m at router = ap (λ (y : Member). cond (eqb y.router router) (Some 0) None) (same_Some _ _ at)
slot_next (x ∷ members) apart (suc n) m at router =
    at_tests (eqb x.router router) (eqb m.router router) (eqb-true x.router router) (eqb-true m.router router) (slot_next members (apart-tail x members apart) n m at router) where
      other : x.router ≢ m.router
      other = apart-head x members n m.router apart (router-get members n ∙ ap (option_map (λ (y : Member). y.router)) at)

      at_tests : (s t : Bool) → (s ≡ true → x.router ≡ router) → (t ≡ true → m.router ≡ router) → slot_of (take (suc n) members) router ≡ cond t (Some n) (slot_of (take n members) router)
          → cond s (Some 0) (option_map (λ k. k + 1) (slot_of (take (suc n) members) router)) ≡ cond t (Some (suc n)) (cond s (Some 0) (option_map (λ k. k + 1) (slot_of (take n members) router)))
      at_tests true true first second rest = absurd (other (first refl ∙ sym (second refl)))
      at_tests true false first second rest = refl
      at_tests false true first second rest = ap (option_map (λ k. k + 1)) rest ∙ one_more n
      at_tests false false first second rest = ap (option_map (λ k. k + 1)) rest

pub slot_within : (members : List Member) (router slot : ℕ) → slot_of members router ≡ Some slot → slot < length members
slot_within members router slot is = let found = slot_found members router slot is in slice_get_within members slot found.member found.there

-- a router without a slot has no identifier
pub unseated : (members : List Member) (router : ℕ) → slot_of members router ≡ None → identifier_of members router ≡ None
unseated members router none = by_identity (identifier_of members router) refl where
  by_identity : (o : Option ℕ) → identifier_of members router ≡ o → identifier_of members router ≡ None
  by_identity None is = is
  by_identity (Some id) is = absurd (none-some _ (sym none ∙ (identified members router id is).1))

-- the slots of the first members, as they are kept
abbrev pub AreSlotsTo : List Member → ℕ → BTreeMap ℕ ℕ → Type 0
AreSlotsTo members n slots = (router : ℕ) → tree.get nat_cmp slots router ≡ slot_of (take n members) router

is_eq-number : (k j : ℕ) → is_eq (nat_cmp k j) ≡ eqb k j
is_eq-number k j = grind (arith, nat_tests)

pub slots_more : (members : List Member) (n : ℕ) (m : Member) (slots new : BTreeMap ℕ ℕ) → AreApart members → AreSlotsTo members n slots → n < length members → m ≡ get_or members n m
    → ((router : ℕ) → tree.get nat_cmp new router ≡ cond (is_eq (nat_cmp m.router router)) (Some n) (tree.get nat_cmp slots router)) → AreSlotsTo members (n + 1) new
slots_more members n m slots new apart before within is updates router =
    let at = slice_get_read members _ n m refl within is in
    updates router ∙ ap (λ (t : Bool). cond t (Some n) (tree.get nat_cmp slots router)) (is_eq-number m.router router)
    ∙ ap (cond (eqb m.router router) (Some n)) (before router) ∙ sym (slot_next members apart n m at router)
    ∙ ap (λ k. slot_of (take k members) router) (sym (add-one n))

pub slots_all : (members : List Member) (n : ℕ) (slots : BTreeMap ℕ ℕ) → AreSlotsTo members n slots → length members ≤ n → AreSlots members slots
slots_all members n slots before all router = before router ∙ ap (λ (ms : List Member). slot_of ms router) (take_all n members all)

-- one member more, by its router and its identifier
pub members_more : (all items more : List Member) (n router id : ℕ) → items ≡ take n all → option_map (λ (m : Member). m.router) (slice_get all n) ≡ Some router
    → option_map (λ (m : Member). m.bgp_id) (slice_get all n) ≡ Some id → more ≡ items ++ record { router = router; bgp_id = id } ∷ [] → more ≡ take (n + 1) all
members_more all items more n router id before has_router has_id is = at_member (slice_get all n) refl has_router has_id where
  at_member : (o : Option Member) → slice_get all n ≡ o → option_map (λ (m : Member). m.router) o ≡ Some router → option_map (λ (m : Member). m.bgp_id) o ≡ Some id → more ≡ take (n + 1) all
  at_member None at first second = absurd (none-some _ first)
  at_member (Some m) at first second =
      let made : ℕ → ℕ → Member = λ r i. record { router = r; bgp_id = i } in
      let same : made router id ≡ m = sym (ap₂ made (same_Some _ _ first) (same_Some _ _ second)) in
      is ∙ ap (λ (l : List Member). l ++ made router id ∷ []) before ∙ ap (λ (x : Member). take n all ++ x ∷ []) same
      ∙ sym (take_more all n m (slice_get_within all n m at) ∙ ap (λ (x : Member). take n all ++ x ∷ []) (get_or_from_slice_get all n m m at))

-- all members, of which so many were taken
pub members_all : (all items : List Member) (n count : ℕ) → items ≡ take n all → count ≡ length all → count ≤ n → items ≡ all
members_all all items n count before counted past = before ∙ take_all n all (omega (arith, counted, past))

pub found_within : (members : List Member) (router : ℕ) (found : Option ℕ) → found ≡ slot_of members router → IfSome found (λ slot. slot < length members)
found_within members router None is = tt
found_within members router (Some slot) is = slot_within members router slot (sym is)

-- the member that is looked up has the router's identifier
pub identifier_found : (members : List Member) (router slot : ℕ) (m : Member) → Some slot ≡ slot_of members router → m ≡ get_or members slot m → Some m.bgp_id ≡ identifier_of members router
identifier_found members router slot m found is =
    let seat = slot_found members router slot (sym found) in
    let same : seat.member ≡ m = sym (get_or_from_slice_get members slot seat.member m seat.there) ∙ sym is in
    sym (seat.identity ∙ ap (λ (x : Member). Some x.bgp_id) same)
