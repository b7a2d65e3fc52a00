-- The replica law: what is offered in a partition follows from what is alike in it.
use Rattle.std.proofs.Common.{◌≡◌, ◌≢◌, ℕ, Bool, true, false, ◌⊎◌, List, [], length, Contains, AllPairs, Option, Some, None, IsSome, is_some, option_and_then, refl, sym, ap, ap₂, subst, ◌∙◌, inl, inr, eqb, eq-eqb, eqb-true}
use Rattle.std.specs.Prelude.{slice_get}
use Rattle.std.specs.List.{list_any}
use Rattle.std.proofs.lemmas.Bool.{false≢true}
use Rattle.std.proofs.lemmas.Option.{same_Some, none-some}
use Rattle.rcp_base.specs.IpPrefix.{IpPrefix}
use Rattle.rcp_base.specs.declared.names.Edge.{Edge}
use Rattle.rcp_base.specs.declared.names.Member.{Member}
use Rattle.rcp_model.specs.Attributes.{number_width}
use Rattle.rcp_model.specs.Routes.{route_in, is_usable}
use Rattle.rcp_model.specs.Costs.{cost, is_reached}
use Rattle.rcp_model.specs.Decision.{Contender, contender, tied, is_of, goes_before, is_nearer, IsNearest}
use Rattle.rcp_model.specs.RouteServer.{Domain, Announced, router_at, cost_between, slot_cost, candidates, IsCandidate, choice_of, offer}
use Rattle.rcp_model.proofs.MemberLemmas.{any_member, none_at_member}
use Rattle.rcp_model.proofs.FilterLemmas.{member_of_tied, tied_member, choice_own, choice_other}
use Rattle.rcp_model.proofs.CandidateLemmas.{candidate_is, choice_of_none, choice_of_nearest, offer_is}
use Rattle.rcp_model.proofs.WalkLemmas.{reached_is_walk}
use Rattle.replica_law.specs.Replicas.{Replica, IsAssigned, IsAlike, IsConnected, HaveEqualTables, ReplicaLaw, slot_of, identifier_of, route_from}
use Rattle.replica_law.proofs.RosterLemmas.{AreApart, member_at, slot_at, IsSeat, slot_found, identified}
use Rattle.replica_law.proofs.CostLemmas.{reached_on, cost_alike}

-- ---- alike in both directions

pub alike-sym : (first second : Replica) (l : ℕ) → IsAlike first second l → IsAlike second first l
alike-sym first second l alike = record {
  as_number = sym alike.as_number;
  partition = λ u. sym (alike.partition u);
  identities = λ u inside. sym (alike.identities u (alike.partition u ∙ inside));
  links = λ u v from to. sym (alike.links u v (alike.partition u ∙ from) (alike.partition v ∙ to));
  routes = λ u p inside. sym (alike.routes u p (alike.partition u ∙ inside));
}

-- ---- slots

slot_cost-is : (edges : List Edge) (members : List Member) (s t u v : ℕ) → router_at members s ≡ Some u → router_at members t ≡ Some v → slot_cost edges members s t ≡ cost edges u v
unfolding slot_cost
slot_cost-is edges members s t u v at_s at_t = rw (at_s, at_t) refl

slot_cost-seat : (edges : List Edge) (members : List Member) (s t : ℕ) → IsSome (slot_cost edges members s t) → (v : ℕ) × (router_at members t ≡ Some v)
unfolding slot_cost
slot_cost-seat edges members s t some = by_seats (router_at members s) (router_at members t) refl some where
  by_seats : (a b : Option ℕ) → router_at members t ≡ b → IsSome (cost_between edges a b) → (v : ℕ) × (router_at members t ≡ Some v)
  by_seats None b is some = absurd (false≢true some)
  by_seats (Some u) None is some = absurd (false≢true some)
  by_seats (Some u) (Some v) is some = (v, is)

one_slot : (members : List Member) → AreApart members → (s t u : ℕ) → router_at members s ≡ Some u → router_at members t ≡ Some u → s ≡ t
one_slot members apart s t u at_s at_t = same_Some _ _ (sym (slot_at members apart s u at_s) ∙ slot_at members apart t u at_t)

own_cases : (slot : ℕ) (list : List Contender) → ((a : Contender) × Contains (tied list) a × (a.slot ≡ slot)) ⊎ ((a : Contender) → Contains (tied list) a → a.slot ≢ slot)
own_cases slot list = at_test (list_any (is_of slot) (tied list)) refl where
  at_test : (t : Bool) → list_any (is_of slot) (tied list) ≡ t → ((a : Contender) × Contains (tied list) a × (a.slot ≡ slot)) ⊎ ((a : Contender) → Contains (tied list) a → a.slot ≢ slot)
  at_test true any = let by = any_member (is_of slot) (tied list) any in inl (by.0, by.1, eqb-true by.0.slot slot by.2)
  at_test false none = inr (λ a member same. false≢true (sym (none_at_member (is_of slot) (tied list) a none member) ∙ eq-eqb a.slot slot same))

-- ---- contenders of one router in both

-- a contender's place in the other replica: the slot of its router there
record HasPlace (first second : Replica) (p : IpPrefix) (s t : ℕ) (a : Contender) (k : ℕ) : Type 0 where
  router : ℕ
  here : router_at first.domain.members a.slot ≡ Some router
  there : router_at second.domain.members k ≡ Some router
  inside : Contains (candidates second.domain (second.announced p) second.edges t) (record a { slot = k })
  costs : slot_cost first.edges first.domain.members s a.slot ≡ slot_cost second.edges second.domain.members t k
  octets : first.announced p a.slot ≡ second.announced p k

-- One router u of the partition, of slot s in the first and t in the second.
record AreSides (first second : Replica) (l u s t : ℕ) : Type 0 where
  alike : IsAlike first second l
  inside : is_reached first.edges l u ≡ true
  apart : AreApart first.domain.members
  others_apart : AreApart second.domain.members
  identifiers : AllPairs (λ a b. a.bgp_id ≢ b.bgp_id) second.domain.members
  at_s : router_at first.domain.members s ≡ Some u
  at_t : router_at second.domain.members t ≡ Some u

module _ (first second : Replica) (p : IpPrefix) (l u s t : ℕ) (sides : AreSides first second l u s t) where
  abbrev list : List Contender
  list = candidates first.domain (first.announced p) first.edges s

  abbrev others : List Contender
  others = candidates second.domain (second.announced p) second.edges t

  costs_alike : (v : ℕ) → cost first.edges u v ≡ cost second.edges u v
  costs_alike v =
      cost_alike first.edges second.edges l u v sides.alike.links
      (alike-sym first second l sides.alike).links
      sides.inside (sym (sides.alike.partition u) ∙ sides.inside)

  place : (a : Contender) → Contains list a → (k : ℕ) × HasPlace first second p s t a k
  place a member =
      let is = (candidate_is first.domain (first.announced p) first.edges s a).0 member in
      let seat = slot_cost-seat first.edges first.domain.members s a.slot is.reached in
      let v = seat.0 in
      let here = slot_cost-is first.edges first.domain.members s a.slot u v sides.at_s seat.1 in
      let reached : is_reached first.edges u v ≡ true = rw here at is.reached in
      let walk = (reached_is_walk first.edges u v).0 reached in
      let inside = reached_on first.edges l u v walk.0 sides.inside walk.1 in
      let slot_here = slot_at first.domain.members sides.apart a.slot v seat.1 in
      let found = slot_found first.domain.members v a.slot slot_here in
      let same_member : found.member ≡ is.member = same_Some _ _ (sym found.there ∙ is.seat) in
      let identity = sym (sides.alike.identities v inside) ∙ found.identity in
      let slot = identified second.domain.members v found.member.bgp_id identity in
      let k = slot.0 in
      let there = slot_found second.domain.members v k slot.1 in
      let same_id : there.member.bgp_id ≡ is.member.bgp_id = same_Some _ _ (sym there.identity ∙ identity) ∙ ap (λ (m : Member). m.bgp_id) same_member in
      let octets : first.announced p a.slot ≡ second.announced p k =
      sym (ap (option_and_then (first.announced p)) slot_here) ∙ (sides.alike.routes v p inside ∙ ap (option_and_then (second.announced p)) slot.1) in
      let there_is = slot_cost-is second.edges second.domain.members t k u v sides.at_t there.seat in
      let costs : slot_cost first.edges first.domain.members s a.slot ≡ slot_cost second.edges second.domain.members t k = here ∙ (costs_alike v ∙ sym there_is) in
      let compared : record a { slot = k } ≡ contender k there.member.bgp_id (route_in number_width second.domain.as_number is.octets) =
      ap (λ (c : Contender). record c { slot = k }) is.compared
      ∙ ap₂ (λ id local. contender k id (route_in number_width local is.octets)) (sym same_id) sides.alike.as_number in (
        k,
        record {
          router = v;
          here = seat.1;
          there = there.seat;
          inside = (candidate_is second.domain (second.announced p) second.edges t (record a { slot = k })).1 record {
            member = there.member;
            seat = there.there;
            octets = is.octets;
            is_announced = sym octets ∙ is.is_announced;
            usable = subst (λ local. is_usable (route_in number_width local is.octets) ≡ true) sides.alike.as_number is.usable;
            reached = subst IsSome costs is.reached;
            compared = compared;
          };
          costs = costs;
          octets = octets;
        },
      )

-- ---- what is tied, nearest and offered is the same

-- each contender of the one replica has its place in the other
record ArePaired (first second : Replica) (p : IpPrefix) (s t : ℕ) : Type 0 where
  there : (a : Contender) → Contains (candidates first.domain (first.announced p) first.edges s) a → (k : ℕ) × HasPlace first second p s t a k
  back : (b : Contender) → Contains (candidates second.domain (second.announced p) second.edges t) b → (k : ℕ) × HasPlace second first p t s b k

paired-sym : (first second : Replica) (p : IpPrefix) (s t : ℕ) → ArePaired first second p s t → ArePaired second first p t s
paired-sym first second p s t pairs = record { there = pairs.back; back = pairs.there }

tied_there : (first second : Replica) (p : IpPrefix) (s t : ℕ) → ArePaired first second p s t → (a : Contender) (k : ℕ) → HasPlace first second p s t a k
    → Contains (tied (candidates first.domain (first.announced p) first.edges s)) a → Contains (tied (candidates second.domain (second.announced p) second.edges t)) (record a { slot = k })
tied_there first second p s t pairs a k has inside =
    tied_member (candidates second.domain (second.announced p) second.edges t) (record a { slot = k }) has.inside
    (λ b member.
    let home = pairs.back b member in
    (member_of_tied (candidates first.domain (first.announced p) first.edges s) a inside).1 (record b { slot = home.0 }) home.1.inside)

nearest_there : (first second : Replica) (p : IpPrefix) (s t : ℕ) → ArePaired first second p s t → (a : Contender) (k : ℕ) → HasPlace first second p s t a k
    → IsNearest (slot_cost first.edges first.domain.members s) (tied (candidates first.domain (first.announced p) first.edges s)) a
    → IsNearest (slot_cost second.edges second.domain.members t) (tied (candidates second.domain (second.announced p) second.edges t)) (record a { slot = k })
nearest_there first second p s t pairs a k has best = record {
  among = tied_there first second p s t pairs a k has best.among;
  least = λ b member.
      let home = pairs.back b (member_of_tied (candidates second.domain (second.announced p) second.edges t) b member).0 in
      let tied_home = tied_there second first p t s (paired-sym first second p s t pairs) b home.0 home.1 member in
      rw (home.1.costs, sym has.costs) (best.least (record b { slot = home.0 }) tied_home);
}

-- what a slot of one router is offered in the first, its slot is offered in the second
module _ (first second : Replica) (p : IpPrefix) (l u s t : ℕ) (sides : AreSides first second l u s t) (pairs : ArePaired first second p s t) where
  own_place : (a : Contender) (k : ℕ) → HasPlace first second p s t a k → k ≡ t → a.slot ≡ s
  own_place a k has same =
      let router : has.router ≡ u = same_Some _ _ (sym has.there ∙ ap (router_at second.domain.members) same ∙ sides.at_t) in
      one_slot first.domain.members sides.apart a.slot s u (has.here ∙ ap Some router) sides.at_s

  no_own_there : ((a : Contender) → Contains (tied (candidates first.domain (first.announced p) first.edges s)) a → a.slot ≢ s)
      → (b : Contender) → Contains (tied (candidates second.domain (second.announced p) second.edges t)) b → b.slot ≢ t
  no_own_there none b member same =
      let home = pairs.back b (member_of_tied (candidates second.domain (second.announced p) second.edges t) b member).0 in
      let router : home.1.router ≡ u = same_Some _ _ (sym home.1.here ∙ ap (router_at second.domain.members) same ∙ sides.at_t) in
      none (record b { slot = home.0 }) (tied_there second first p t s (paired-sym first second p s t pairs) b home.0 home.1 member)
      (one_slot first.domain.members sides.apart home.0 s u (home.1.there ∙ ap Some router) sides.at_s)

  chosen_there : (chosen : ℕ) → choice_of first.domain (first.announced p) first.edges s ≡ Some chosen → chosen ≢ s
      → (k : ℕ) × (choice_of second.domain (second.announced p) second.edges t ≡ Some k) × (k ≢ t) × (first.announced p chosen ≡ second.announced p k)
  unfolding choice_of
  chosen_there chosen choice other = elim (own_cases s (candidates first.domain (first.announced p) first.edges s)) [
    | inl own ↦ absurd (other (same_Some _ _ (sym choice ∙ choice_own s (slot_cost first.edges first.domain.members s) (candidates first.domain (first.announced p) first.edges s) own.0 own.1 own.2)))
    | inr none ↦
        let list = candidates first.domain (first.announced p) first.edges s in
        let filled : list ≢ [] = λ empty. none-some _ (sym ((choice_of_none first.domain (first.announced p) first.edges s).1 empty) ∙ choice) in
        let best = choice_other s (slot_cost first.edges first.domain.members s) list none filled in
        let is_best : best.0.slot ≡ chosen = same_Some _ _ (sym best.1 ∙ choice) in
        let has = pairs.there best.0 (member_of_tied list best.0 best.2.among).0 in (
          has.0,
          choice_of_nearest second.domain (second.announced p) second.edges t (record best.0 { slot = has.0 }) sides.identifiers (no_own_there none)
              (nearest_there first second p s t pairs best.0 has.0 has.1 best.2),
          λ same. other (sym is_best ∙ own_place best.0 has.0 has.1 same),
          ap (first.announced p) (sym is_best) ∙ has.1.octets,
        )
  ]

  offer_there : (octets : List ℕ) → offer first.domain (first.announced p) first.edges s ≡ Some octets → offer second.domain (second.announced p) second.edges t ≡ Some octets
  offer_there octets offered =
      let is = (offer_is first.domain (first.announced p) first.edges s octets).0 offered in
      let found = chosen_there is.0 is.1 is.2 in
      (offer_is second.domain (second.announced p) second.edges t octets).1 (found.0, found.1, found.2, sym found.3 ∙ is.3)

-- ---- the law

same_offers : (a b : Option (List ℕ)) → ((octets : List ℕ) → a ≡ Some octets → b ≡ Some octets) → ((octets : List ℕ) → b ≡ Some octets → a ≡ Some octets) → a ≡ b
same_offers None None there back = refl
same_offers None (Some b) there back = back b refl
same_offers (Some a) b there back = sym (there a refl)

sides-sym : (first second : Replica) (l u s t : ℕ) → AllPairs (λ a b. a.bgp_id ≢ b.bgp_id) first.domain.members → AreSides first second l u s t → AreSides second first l u t s
sides-sym first second l u s t identifiers sides = record {
  alike = alike-sym first second l sides.alike;
  inside = sym (sides.alike.partition u) ∙ sides.inside;
  apart = sides.others_apart;
  others_apart = sides.apart;
  identifiers = identifiers;
  at_s = sides.at_t;
  at_t = sides.at_s;
}

pub replica_law : ReplicaLaw
replica_law first second law other l alike router slot place_there p inside here there settled settled_there =
    let sides : AreSides first second l router slot place_there = record {
      alike = alike;
      inside = inside;
      apart = law.members.routers;
      others_apart = other.members.routers;
      identifiers = other.members.identifiers;
      at_s = here.seat;
      at_t = there.seat;
    } in
    let back = sides-sym first second l router slot place_there law.members.identifiers sides in
    let pairs : ArePaired first second p slot place_there = record {
      there = place first second p l router slot place_there sides;
      back = place second first p l router place_there slot back;
    } in
    law.settled slot p here.session settled
    ∙ same_offers (offer first.domain (first.announced p) first.edges slot) (offer second.domain (second.announced p) second.edges place_there)
    (offer_there first second p l router slot place_there sides pairs)
    (offer_there second first p l router place_there slot back (paired-sym first second p slot place_there pairs))
    ∙ sym (other.settled place_there p there.session settled_there)
