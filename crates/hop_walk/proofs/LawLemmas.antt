-- The hop law: a connected router on a shortest path to an egress chooses that egress.
use Rattle.std.proofs.Common.{◌≡◌, ◌≢◌, ℕ, zero, suc, ◌+◌, ◌<◌, ◌≤◌, Bool, true, false, ◌&&◌, ◌||◌, ◌==◌, nat_lt, ◌⊎◌, List, [], ◌∷◌, length, get_or, Contains, AllPairs, IsSomeAnd, Option, Some, None, IsSome, is_some, refl, sym, ap, subst, ◌∙◌, inl, inr, arith, eqb, ltb, eq-eqb, eqb-true}
use Rattle.std.specs.List.{list_any}
use Rattle.std.proofs.lemmas.Bool.{false≢true, cases_Bool, ltb-true, ltb-false, eqb-false}
use Rattle.std.proofs.lemmas.Option.{same_Some, none-some}
use Rattle.std.proofs.lemmas.Bool.Decides.{nat_tests}
use Rattle.rcp_base.specs.declared.names.Edge.{Edge}
use Rattle.rcp_base.specs.declared.names.Member.{Member}
use Rattle.rcp_model.specs.Costs.{IsTwoWay, cost, is_reached}
use Rattle.rcp_model.specs.Decision.{Contender, tied, is_of, is_lower_pair, IsNearest}
use Rattle.rcp_model.specs.RouteServer.{Domain, Announced, router_at, cost_between, slot_cost, announcement_contender, candidates_from, candidates, choice_of}
use Rattle.rcp_model.proofs.WalkLemmas.{cost-itself, cost_over}
use Rattle.rcp_model.proofs.MemberLemmas.{any_member, none_at_member}
use Rattle.rcp_model.proofs.FilterLemmas.{member_of_tied, choice_own, choice_other}
use Rattle.rcp_model.proofs.CandidateLemmas.{candidate_is, choice_of_none, choice_of_nearest}
use Rattle.cost_rows.proofs.BoundLemmas.{walk_of}
use Rattle.hop_walk.specs.Hops.{ArePositive}
use Rattle.hop_walk.proofs.WayLemmas.{cost_of_some, Parts, reach-same, positive_walk}

-- ---- candidates depend only on which routers are reached

contender-reach : (domain : Domain) (slot id : ℕ) (found : Option (List ℕ)) (a b : Option ℕ) → is_some a ≡ is_some b
    → announcement_contender domain slot id found a ≡ announcement_contender domain slot id found b
contender-reach domain slot id None a b same = refl
contender-reach domain slot id (Some octets) None None same = refl
contender-reach domain slot id (Some octets) None (Some n) same = absurd (false≢true same)
contender-reach domain slot id (Some octets) (Some m) None same = absurd (false≢true (sym same))
contender-reach domain slot id (Some octets) (Some m) (Some n) same = refl

candidates-reach : (domain : Domain) (announced : Announced) (f g : ℕ → Option ℕ) → ((e : ℕ) → is_some (f e) ≡ is_some (g e)) → (slot : ℕ) (members : List Member)
    → candidates_from domain announced f slot members ≡ candidates_from domain announced g slot members
candidates-reach domain announced f g same slot [] = refl
candidates-reach domain announced f g same slot (member ∷ members) =
    rw (contender-reach domain slot member.bgp_id (announced slot) (f slot) (g slot) (same slot), candidates-reach domain announced f g same (suc slot) members) refl

-- whether the slot's own route is tied, with what that says
own_cases : (slot : ℕ) (list : List Contender) → ((a : Contender) × Contains (tied list) a × (a.slot ≡ slot)) ⊎ ((a : Contender) → Contains (tied list) a → a.slot ≢ slot)
own_cases slot list = at_test (list_any (is_of slot) (tied list)) refl where
  at_test : (t : Bool) → list_any (is_of slot) (tied list) ≡ t → ((a : Contender) × Contains (tied list) a × (a.slot ≡ slot)) ⊎ ((a : Contender) → Contains (tied list) a → a.slot ≢ slot)
  at_test true any = let by = any_member (is_of slot) (tied list) any in inl (by.0, by.1, eqb-true by.0.slot slot by.2)
  at_test false none = inr (λ a member same. false≢true (sym (none_at_member (is_of slot) (tied list) a none member) ∙ eq-eqb a.slot slot same))

-- ---- slots

seat_is : (members : List Member) (slot router : ℕ) (d : Member) → router_at members slot ≡ Some router → (slot < length members) × ((get_or members slot d).router ≡ router)
seat_is [] slot router d is = absurd (none-some _ is)
seat_is (member ∷ members) zero router d is = (omega arith, same_Some _ _ is)
seat_is (member ∷ members) (suc slot) router d is = let rest = seat_is members slot router d is in (omega (arith, rest.0), rest.1)

pub one_slot : (members : List Member) → AllPairs (λ a b. a.router ≢ b.router) members → (s t router : ℕ) → router_at members s ≡ Some router → router_at members t ≡ Some router → s ≡ t
one_slot members apart s t router at_s at_t = by_order (cases_Bool (ltb s t)) (cases_Bool (ltb t s)) where
  d : Member
  d = record { router = 0; bgp_id = 0 }

  first : (s < length members) × ((get_or members s d).router ≡ router)
  first = seat_is members s router d at_s

  second : (t < length members) × ((get_or members t d).router ≡ router)
  second = seat_is members t router d at_t

  by_order : (ltb s t ≡ true) ⊎ (ltb s t ≡ false) → (ltb t s ≡ true) ⊎ (ltb t s ≡ false) → s ≡ t
  by_order (inl below) other = absurd (apart s t d (ltb-true s t below) second.0 (first.1 ∙ sym second.1))
  by_order (inr none) (inl below) = absurd (apart t s d (ltb-true t s below) first.0 (second.1 ∙ sym first.1))
  by_order (inr none) (inr no_other) = omega (arith, ltb-false s t none, ltb-false t s no_other)

pub slot_cost-is : (edges : List Edge) (members : List Member) (s t u v : ℕ) → router_at members s ≡ Some u → router_at members t ≡ Some v → slot_cost edges members s t ≡ cost edges u v
unfolding slot_cost
slot_cost-is edges members s t u v at_s at_t = rw (at_s, at_t) refl

-- a slot to which there is a cost has a router
pub slot_cost-seat : (edges : List Edge) (members : List Member) (s t : ℕ) → IsSome (slot_cost edges members s t) → (v : ℕ) × (router_at members t ≡ Some v)
unfolding slot_cost
slot_cost-seat edges members s t some = by_seats (router_at members s) (router_at members t) refl some where
  by_seats : (a b : Option ℕ) → router_at members t ≡ b → IsSome (cost_between edges a b) → (v : ℕ) × (router_at members t ≡ Some v)
  by_seats None b is some = absurd (false≢true some)
  by_seats (Some u) None is some = absurd (false≢true some)
  by_seats (Some u) (Some v) is some = (v, is)

slots-reach : (edges : List Edge) (members : List Member) → IsTwoWay edges → (s t u w : ℕ) → router_at members s ≡ Some u → router_at members t ≡ Some w → is_reached edges u w ≡ true
    → (e : ℕ) → is_some (slot_cost edges members t e) ≡ is_some (slot_cost edges members s e)
unfolding slot_cost
slots-reach edges members both s t u w at_s at_t reached e = rw (at_s, at_t) (by_seat (router_at members e)) where
  by_seat : (o : Option ℕ) → is_some (cost_between edges (Some w) o) ≡ is_some (cost_between edges (Some u) o)
  by_seat None = refl
  by_seat (Some x) = sym (reach-same edges both u w reached x)

-- ---- the lower pair seen from a router on the way

no_lower : (p y m n i j : ℕ) → p ≤ m + y → (nat_lt p (m + n) || p == m + n && nat_lt i j) ≡ false → (nat_lt y n || y == n && nat_lt i j) ≡ false
no_lower p y m n i j over none = grind (arith, nat_tests)

lower : (m n i j : ℕ) → 0 < n → (nat_lt m (m + n) || m == m + n && nat_lt i j) ≡ true
lower m n i j some = grind (arith, nat_tests)

no-pair : (a b : Option ℕ) (p y m n i j : ℕ) → a ≡ Some p → b ≡ Some (m + n) → p ≤ m + y → is_lower_pair a i b j ≡ false → is_lower_pair (Some y) i (Some n) j ≡ false
no-pair a b p y m n i j a_is b_is over none = no_lower p y m n i j over (rw (a_is, b_is) at none)

lower-pair : (a b : Option ℕ) (m n i j : ℕ) → a ≡ Some m → b ≡ Some (m + n) → 0 < n → is_lower_pair a i b j ≡ true
lower-pair a b m n i j a_is b_is some = rw (a_is, b_is) (lower m n i j some)

-- ---- the law

-- A router w of slot t stands on a shortest path from u of slot s to v, of the slot that s chooses.
module _ (domain : Domain) (announced : Announced) (edges : List Edge) (both : IsTwoWay edges) (s t u w : ℕ) (at_s : router_at domain.members s ≡ Some u) (at_t : router_at domain.members t ≡ Some w)
    (routers : AllPairs (λ a b. a.router ≢ b.router) domain.members) (identifiers : AllPairs (λ a b. a.bgp_id ≢ b.bgp_id) domain.members) (positive : ArePositive edges u) where
  abbrev list : List Contender
  list = candidates domain announced edges s

  reached : (v : ℕ) → Parts edges u w v → is_reached edges u w ≡ true
  reached v parts = ap is_some parts.first

  same-list : is_reached edges u w ≡ true → candidates domain announced edges t ≡ list
  unfolding candidates
  same-list inside = candidates-reach domain announced (slot_cost edges domain.members t) (slot_cost edges domain.members s) (slots-reach edges domain.members both s t u w at_s at_t inside) 0 domain.members

  -- the nearest of s is the nearest of t
  still-nearest : (a : Contender) (v : ℕ) → router_at domain.members a.slot ≡ Some v → Parts edges u w v → IsNearest (slot_cost edges domain.members s) (tied list) a
      → IsNearest (slot_cost edges domain.members t) (tied list) a
  still-nearest a v at_a parts best = record {
    among = best.among;
    least = λ b inside.
        let some = ((candidate_is domain announced edges s b).0 (member_of_tied list b inside).0).reached in
        let seat = slot_cost-seat edges domain.members s b.slot some in
        let from_s = slot_cost-is edges domain.members s b.slot u seat.0 at_s seat.1 in
        let p = cost_of_some (cost edges u seat.0) (rw from_s at some) in
        let y = cost_of_some (cost edges w seat.0) (sym (reach-same edges both u w (reached v parts) seat.0) ∙ ap is_some p.1) in
        let over : p.0 ≤ parts.m + y.0 = subst (λ o. IsSomeAnd o (λ c. c ≤ parts.m + y.0)) p.1 (cost_over edges u w seat.0 parts.m y.0 parts.first y.1) in
        let none = no-pair (slot_cost edges domain.members s b.slot) (slot_cost edges domain.members s a.slot) p.0 y.0 parts.m parts.n b.id a.id (from_s ∙ p.1)
        (slot_cost-is edges domain.members s a.slot u v at_s at_a ∙ parts.whole) over (best.least b inside) in
        rw (slot_cost-is edges domain.members t b.slot w seat.0 at_t seat.1 ∙ y.1, slot_cost-is edges domain.members t a.slot w v at_t at_a ∙ parts.second) none;
  }

  -- a tied router on the way is the egress
  tied-there : (a b : Contender) (v : ℕ) → router_at domain.members a.slot ≡ Some v → Parts edges u w v → IsNearest (slot_cost edges domain.members s) (tied list) a
      → Contains (tied list) b → b.slot ≡ t → t ≡ a.slot
  tied-there a b v at_a parts best inside own = by_equal (cases_Bool (eqb w v)) where
    by_equal : (eqb w v ≡ true) ⊎ (eqb w v ≡ false) → t ≡ a.slot
    by_equal (inl same) = one_slot domain.members routers t a.slot v (at_t ∙ ap Some (eqb-true w v same)) at_a
    by_equal (inr other) =
        let some = positive_walk u positive (walk_of edges w v parts.n parts.second) (reached v parts) (eqb-false w v other) in
        let is_lower = lower-pair (slot_cost edges domain.members s b.slot) (slot_cost edges domain.members s a.slot) parts.m parts.n b.id a.id
        (ap (slot_cost edges domain.members s) own ∙ slot_cost-is edges domain.members s t u w at_s at_t ∙ parts.first)
        (slot_cost-is edges domain.members s a.slot u v at_s at_a ∙ parts.whole) some in
        absurd (false≢true (sym (best.least b inside) ∙ is_lower))

  -- on the way from a router to itself there is no other
  no_way_round : Parts edges u w u → s ≡ t
  no_way_round parts = by_equal (cases_Bool (eqb u w)) where
    none : parts.m + parts.n ≡ 0
    none = same_Some _ _ (sym parts.whole ∙ cost-itself edges u)

    by_equal : (eqb u w ≡ true) ⊎ (eqb u w ≡ false) → s ≡ t
    by_equal (inl same) = one_slot domain.members routers s t w (at_s ∙ ap Some (eqb-true u w same)) at_t
    by_equal (inr other) =
        let some = positive_walk u positive (walk_of edges u w parts.m parts.first) (ap is_some (cost-itself edges u)) (eqb-false u w other) in
        absurd (omega (arith, some, none))

  pub law : (egress v : ℕ) → choice_of domain announced edges s ≡ Some egress → router_at domain.members egress ≡ Some v → Parts edges u w v → choice_of domain announced edges t ≡ Some egress
  unfolding choice_of
  law egress v chosen at_egress parts = elim (own_cases s list) [
    | inl own ↦
        let is_own : s ≡ egress = same_Some _ _ (sym (choice_own s (slot_cost edges domain.members s) list own.0 own.1 own.2) ∙ chosen) in
        let same_router : u ≡ v = same_Some _ _ (sym at_s ∙ ap (router_at domain.members) is_own ∙ at_egress) in
        subst (λ x. choice_of domain announced edges x ≡ Some egress) (no_way_round (subst (Parts edges u w) (sym same_router) parts)) chosen
    | inr others ↦
        let filled : list ≢ [] = λ empty. none-some _ (sym (sym chosen ∙ (choice_of_none domain announced edges s).1 empty)) in
        let best = choice_other s (slot_cost edges domain.members s) list others filled in
        let is_best : best.0.slot ≡ egress = same_Some _ _ (sym best.1 ∙ chosen) in
        let at_best : router_at domain.members best.0.slot ≡ Some v = ap (router_at domain.members) is_best ∙ at_egress in
        let same = same-list (reached v parts) in
        elim (own_cases t list) [
          | inl own ↦
              let there : t ≡ best.0.slot = tied-there best.0 own.0 v at_best parts best.2 own.1 own.2 in
              choice_own t (slot_cost edges domain.members t) (candidates domain announced edges t) own.0 (subst (λ l. Contains (tied l) own.0) (sym same) own.1) own.2 ∙ ap Some (there ∙ is_best)
          | inr no_own ↦
              choice_of_nearest domain announced edges t best.0 identifiers (subst (λ l. (b : Contender) → Contains (tied l) b → b.slot ≢ t) (sym same) no_own)
              (subst (λ l. IsNearest (slot_cost edges domain.members t) (tied l) best.0) (sym same) (still-nearest best.0 v at_best parts best.2)) ∙ ap Some is_best
        ]
  ]
