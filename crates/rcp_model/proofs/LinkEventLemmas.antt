-- New edges keep what is settled: where no cost to an announcer changes, each slot is offered the same.
use Rattle.std.proofs.Common.{◌≡◌, ℕ, zero, suc, ◌<◌, ◌≤◌, Bool, true, false, not, ◌||◌, eqb, ltb, List, [], ◌∷◌, length, Option, Some, None, refl, sym, ap, ◌∙◌, inl, inr, arith}
use Rattle.std.specs.Prelude.{filter}
use Rattle.std.specs.List.{list_any, AllByRecursion}
use Rattle.std.proofs.lemmas.Bool.{cases_Bool, and_parts, or_parts, or_left, or_right, eqb-true, eq-eqb, ltb-true, ltb-false, both_ways}
use Rattle.rcp_base.specs.IpPrefix.{IpPrefix}
use Rattle.rcp_base.specs.declared.names.Member.{Member}
use Rattle.rcp_base.specs.declared.names.Edge.{Edge}
use Rattle.rcp_base.specs.Maps.{same_prefix, is_among}
use Rattle.rcp_model.specs.Attributes.{number_width}
use Rattle.rcp_model.specs.Routes.{route_in, is_usable}
use Rattle.rcp_model.specs.Decision.{Contender, tied, is_nearer, nearest, choice}
use Rattle.rcp_model.specs.RouteServer.{Domain, Announced, Announcements, Server, Links, same_place, announced_by, announced_at, announced_prefixes, router_at, slot_cost, announcement_contender, cons_some, candidates_from, candidates, choice_of, unless_own, offer, same_cost, cost_differs, moved, after}
use Rattle.rcp_base.proofs.MapLemmas.{is_among-include_all}
use Rattle.rcp_model.proofs.OfferLemmas.{filter-keeps}
use Rattle.rcp_model.proofs.ServerLemmas.{Settled, include_all-form, kept-form}

-- ---- an offer depends on the costs to those who announce

module _ (f g : ℕ → Option ℕ) where
  abbrev IsSame : Contender → Type 0
  IsSame c = f c.slot ≡ g c.slot

  module _ (domain : Domain) (announced : Announced) (same : (e : ℕ) (octets : List ℕ) → announced e ≡ Some octets → f e ≡ g e) where
    first-same : (slot id : ℕ) (found : Option (List ℕ)) (list : List Contender) → announced slot ≡ found
        → cons_some (announcement_contender domain slot id found (f slot)) list ≡ cons_some (announcement_contender domain slot id found (g slot)) list
    first-same slot id None list is = refl
    first-same slot id (Some octets) list is = rw (same slot octets is) refl

    candidates-same : (slot : ℕ) (members : List Member) → candidates_from domain announced f slot members ≡ candidates_from domain announced g slot members
    candidates-same slot [] = refl
    candidates-same slot (member ∷ members) =
        first-same slot member.bgp_id (announced slot) (candidates_from domain announced f (suc slot) members) refl
        ∙ ap (cons_some (announcement_contender domain slot member.bgp_id (announced slot) (g slot))) (candidates-same (suc slot) members)

    first-cost : (slot id : ℕ) (found : Option (List ℕ)) (cost_to : Option ℕ) (list : List Contender) → announced slot ≡ found → AllByRecursion IsSame list
        → AllByRecursion IsSame (cons_some (announcement_contender domain slot id found cost_to) list)
    first-cost slot id None cost_to list is h = h
    first-cost slot id (Some octets) None list is h = h
    first-cost slot id (Some octets) (Some reached) list is h =
        elim (cases_Bool (is_usable (route_in number_width domain.as_number octets))) [
          | inl u ↦ rw u (same slot octets is, h)
          | inr u ↦ rw u h
        ]

    candidates-costs : (slot : ℕ) (members : List Member) → AllByRecursion IsSame (candidates_from domain announced g slot members)
    candidates-costs slot [] = tt
    candidates-costs slot (member ∷ members) =
        first-cost slot member.bgp_id (announced slot) (g slot) (candidates_from domain announced g (suc slot) members) refl (candidates-costs (suc slot) members)

  any-nearer : (a : Contender) (list : List Contender) → IsSame a → AllByRecursion IsSame list
      → list_any (λ b. is_nearer f b a) list ≡ list_any (λ b. is_nearer g b a) list
  any-nearer a [] h hs = refl
  any-nearer a (b ∷ list) h hs = rw (h, hs.0, any-nearer a list h hs.1) refl

  nearest-same : (list : List Contender) → AllByRecursion IsSame list → nearest f list ≡ nearest g list
  nearest-same [] h = refl
  nearest-same (a ∷ list) h = rw (any-nearer a list h.0 h.1, nearest-same list h.1) refl

  tied-same : (list : List Contender) → AllByRecursion IsSame list → AllByRecursion IsSame (tied list)
  unfolding tied
  tied-same list h = filter-keeps IsSame _ _ (filter-keeps IsSame _ _ (filter-keeps IsSame _ _ (filter-keeps IsSame _ _ h)))

  choice-same : (slot : ℕ) (list : List Contender) → AllByRecursion IsSame list → choice slot f list ≡ choice slot g list
  unfolding choice
  choice-same slot list h = rw (nearest-same (tied list) (tied-same list h)) refl

pub offer-costs : (domain : Domain) (announced : Announced) (before now : List Edge) (slot : ℕ)
    → ((e : ℕ) (octets : List ℕ) → announced e ≡ Some octets → slot_cost before domain.members slot e ≡ slot_cost now domain.members slot e)
    → offer domain announced before slot ≡ offer domain announced now slot
unfolding offer choice_of candidates
offer-costs domain announced before now slot same =
    let f = slot_cost before domain.members slot in
    let g = slot_cost now domain.members slot in
    let list = candidates_from domain announced g 0 domain.members in
    ap (λ (l : List Contender). unless_own slot announced (choice slot f l)) (candidates-same f g domain announced same 0 domain.members)
    ∙ ap (unless_own slot announced) (choice-same f g slot list (candidates-costs f g domain announced same 0 domain.members))

-- ---- whose costs differ

same_cost-is : (a b : Option ℕ) → same_cost a b ≡ true → a ≡ b
same_cost-is None None e = refl
same_cost-is None (Some n) e = absurd cc
same_cost-is (Some m) None e = absurd cc
same_cost-is (Some m) (Some n) e = ap Some (eqb-true m n e)

not-not : (b : Bool) → not b ≡ false → b ≡ true
not-not true e = refl
not-not false e = absurd cc

module _ (before now : List Edge) (members : List Member) where
  below-same : (e n q : ℕ) → cost_differs before now members e n ≡ false → q < n → slot_cost before members q e ≡ slot_cost now members q e
  below-same e zero q same below = absurd (omega (arith, below))
  below-same e (suc n) q same below =
      let parts = or_parts (not (same_cost (slot_cost before members n e) (slot_cost now members n e))) (cost_differs before now members e n) same in
      elim (cases_Bool (eqb q n)) [
        | inl t ↦
            let q_is : q ≡ n = eqb-true q n t in
            rw q_is (same_cost-is (slot_cost before members n e) (slot_cost now members n e) (not-not _ parts.0))
        | inr t ↦ elim (cases_Bool (ltb q n)) [
          | inl l ↦ below-same e n q parts.1 (ltb-true q n l)
          | inr l ↦ absurd (both_ways (eqb q n) t (eq-eqb q n (omega (arith, ltb-false q n l, below))))
        ]
      ]

router-none : (members : List Member) (slot : ℕ) → length members ≤ slot → router_at members slot ≡ None
router-none [] slot beyond = refl
router-none (member ∷ members) zero beyond = absurd (omega (arith, beyond))
router-none (member ∷ members) (suc slot) beyond = router-none members slot (omega (arith, beyond))

-- a slot whose costs don't differ has the same cost from each slot, also from one that no member has
every-same : (before now : List Edge) (members : List Member) (e q : ℕ) → cost_differs before now members e (length members) ≡ false
    → slot_cost before members q e ≡ slot_cost now members q e
unfolding slot_cost
every-same before now members e q same =
    elim (cases_Bool (ltb q (length members))) [
      | inl l ↦ below-same before now members e (length members) q same (ltb-true q (length members) l)
      | inr l ↦ rw (router-none members q (ltb-false q (length members) l)) refl
    ]

-- what a slot that passes a test announces is among the prefixes of those that pass
passed-among : (a : Announcements) (test : ℕ → Bool) (e : ℕ) (p : IpPrefix) (octets : List ℕ) → announced_by a e p ≡ Some octets → test e ≡ true
    → is_among (announced_prefixes (filter (λ entry. test entry.0.0) a)) p ≡ true
passed-among [] test e p octets is passed = absurd cc
passed-among (entry ∷ a) test e p octets is passed =
    elim (cases_Bool (same_place (e, p) entry.0)) [
      | inl s ↦
          let parts = and_parts (eqb e entry.0.0) (same_prefix p entry.0.1) s in
          let e_is : e ≡ entry.0.0 = eqb-true e entry.0.0 parts.0 in
          let own : test entry.0.0 ≡ true = rw (← e_is) passed in
          rw own (or_left (same_prefix p entry.0.1) _ parts.1)
      | inr s ↦ elim (cases_Bool (test entry.0.0)) [
        | inl t ↦ rw t (or_right (same_prefix p entry.0.1) _ (passed-among a test e p octets (rw s at is) passed))
        | inr t ↦ rw t (passed-among a test e p octets (rw s at is) passed)
      ]
    ]

pub settled-links : (domain : Domain) (edges : List Edge) (server : Server) → Settled domain server → Settled domain (after domain (Links edges) server)
unfolding after
settled-links domain edges server h = record {
  offers = λ slot table p is not_pending.
      let quiet : (is_among (announced_prefixes (moved domain server.edges edges server.announcements)) p || is_among server.pending p) ≡ false
      = sym (is_among-include_all (announced_prefixes (moved domain server.edges edges server.announcements)) server.pending p) ∙ not_pending in
      let parts = or_parts _ _ quiet in
      h.offers slot table p is parts.1
      ∙ offer-costs domain (announced_at server.announcements p) server.edges edges slot
      (λ e octets announced. every-same server.edges edges domain.members e slot (unmoved p e octets announced parts.0));
  canonical = h.canonical;
  pending = include_all-form (announced_prefixes (moved domain server.edges edges server.announcements)) server.pending
      (kept-form (λ entry. cost_differs server.edges edges domain.members entry.0.0 (length domain.members)) server.announcements h.announced) h.pending;
  announced = h.announced;
} where
  unmoved : (p : IpPrefix) (e : ℕ) (octets : List ℕ) → announced_by server.announcements e p ≡ Some octets
      → is_among (announced_prefixes (moved domain server.edges edges server.announcements)) p ≡ false
      → cost_differs server.edges edges domain.members e (length domain.members) ≡ false
  unmoved p e octets announced quiet =
      elim (cases_Bool (cost_differs server.edges edges domain.members e (length domain.members))) [
        | inl t ↦ absurd (both_ways _ quiet (passed-among server.announcements (λ k. cost_differs server.edges edges domain.members k (length domain.members)) e p octets announced t))
        | inr t ↦ t
      ]

-- ---- edges that are the same

same_cost-itself : (a : Option ℕ) → same_cost a a ≡ true
same_cost-itself None = refl
same_cost-itself (Some n) = eq-eqb n n refl

differs-none : (edges : List Edge) (members : List Member) (e n : ℕ) → cost_differs edges edges members e n ≡ false
differs-none edges members e zero = refl
differs-none edges members e (suc n) = rw (same_cost-itself (slot_cost edges members n e)) (differs-none edges members e n)

moved-none : (domain : Domain) (edges : List Edge) (a : Announcements) → moved domain edges edges a ≡ []
moved-none domain edges [] = refl
moved-none domain edges (entry ∷ a) = rw (differs-none edges domain.members entry.0.0 (length domain.members)) (moved-none domain edges a)

-- The edges that the server has change nothing.
pub links-same : (domain : Domain) (server : Server) → after domain (Links server.edges) server ≡ server
unfolding after
links-same domain server = rw (moved-none domain server.edges server.announcements) refl
