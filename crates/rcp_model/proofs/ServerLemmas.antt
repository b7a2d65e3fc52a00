-- What the events of the server keep: where a prefix isn't pending, each table has what its slot is offered.
use Rattle.std.proofs.Common.{◌≡◌, ℕ, Bool, true, false, not, ◌&&◌, ◌||◌, eqb, List, [], ◌∷◌, Option, Some, None, refl, sym, ap, ◌∙◌, ◌⊎◌, inl, inr}
use Rattle.std.specs.Prelude.{filter}
use Rattle.std.specs.List.{AllByRecursion}
use Rattle.std.proofs.lemmas.Bool.{cases_Bool, and_parts, and_from, and_right, or_parts, or_from, or_left, or_right, eqb-true, eq-eqb, both_ways}
use Rattle.rcp_base.specs.IpPrefix.{IpPrefix, IsPrefix}
use Rattle.rcp_base.specs.declared.names.Edge.{Edge}
use Rattle.rcp_base.specs.Maps.{get_at, put_at, set_at, same_prefix, is_before, include, include_all, is_among}
use Rattle.rcp_model.specs.Attributes.{canonical_octets, attributes_in}
use Rattle.rcp_model.specs.Updates.{Table}
use Rattle.rcp_model.specs.LinkState.{same_number}
use Rattle.rcp_model.specs.RouteServer.{Domain, Place, Announcements, Server, Up, Down, Change, Work, same_place, announced_by, announced_at, announced_prefixes, of_slot, same_octets, table_of, is_connected, is_pending, offer, worked, after}
use Rattle.rcp_base.proofs.MapLemmas.{IsKeyTest, get_at-put_at_same, get_at-put_at_other, get_at-without_passed, get_at-without_left, get_at-set_at_same, get_at-set_at_other, same_prefix-is, same_prefix-itself, same_prefix-other, prefix_test, is_among-include, is_among-include_all}
use Rattle.rcp_model.proofs.OfferLemmas.{offer-none, filter-keeps}

-- ---- the tests of keys

pub number_test : IsKeyTest same_number
number_test = record { itself = λ k. eq-eqb k k refl; sound = λ j k e. eqb-true j k e }

same_place-is : (a b : Place) → same_place a b ≡ true → a ≡ b
same_place-is a b e =
    let parts = and_parts (eqb a.0 b.0) (same_prefix a.1 b.1) e in
    let slot : a.0 ≡ b.0 = eqb-true _ _ parts.0 in
    let p : a.1 ≡ b.1 = same_prefix-is a.1 b.1 parts.1 in
    ap (λ (n : ℕ). (n, a.1)) slot ∙ ap (λ (q : IpPrefix). (b.0, q)) p

pub place_test : IsKeyTest same_place
place_test = record { itself = λ a. and_from _ _ (eq-eqb a.0 a.0 refl) (same_prefix-itself a.1); sound = same_place-is }

pub number-other : (m n : ℕ) → eqb m n ≡ false → eqb n m ≡ false
number-other m n h =
    elim (cases_Bool (eqb n m)) [
      | inl e ↦ let k : n ≡ m = eqb-true n m e in absurd (both_ways (eqb m n) h (eq-eqb m n (sym k)))
      | inr e ↦ e
    ]

-- ---- announcements

-- another prefix keeps its announcements
announced-other : (a : Announcements) (slot e : ℕ) (p q : IpPrefix) (octets : Option (List ℕ)) → same_prefix p q ≡ false
    → announced_by (set_at same_place (slot, p) octets a) e q ≡ announced_by a e q
announced-other a slot e p q octets h =
    get_at-set_at_other same_place place_test (slot, p) (e, q) octets a
    (and_right (eqb e slot) (same_prefix q p) (same_prefix-other p q h))
    (and_right (eqb slot e) (same_prefix p q) h)

-- what is announced is among the announced prefixes
announced-among : (a : Announcements) (e : ℕ) (p : IpPrefix) (octets : List ℕ) → announced_by a e p ≡ Some octets → is_among (announced_prefixes a) p ≡ true
announced-among [] e p octets h = absurd cc
announced-among (entry ∷ a) e p octets h =
    elim (cases_Bool (same_place (e, p) entry.0)) [
      | inl s ↦ or_left _ _ (and_parts (eqb e entry.0.0) (same_prefix p entry.0.1) s).1
      | inr s ↦ or_right (same_prefix p entry.0.1) (is_among (announced_prefixes a) p) (announced-among a e p octets (rw s at h))
    ]

pub unannounced : (a : Announcements) (e : ℕ) (p : IpPrefix) → is_among (announced_prefixes a) p ≡ false → announced_by a e p ≡ None
unannounced a e p h = by_cases (announced_by a e p) refl where
  by_cases : (found : Option (List ℕ)) → announced_by a e p ≡ found → announced_by a e p ≡ None
  by_cases None is = is
  by_cases (Some octets) is = absurd (both_ways (is_among (announced_prefixes a) p) h (announced-among a e p octets is))

-- ---- what is kept

-- the octets of announcements are canonical
pub record AreCanonical (a : Announcements) : Type 0 where
  pub each : (slot : ℕ) (p : IpPrefix) (octets : List ℕ) → announced_by a slot p ≡ Some octets → canonical_octets (attributes_in octets) ≡ octets

pub record Settled (domain : Domain) (server : Server) : Type 0 where
  pub offers : (slot : ℕ) (table : Table) (p : IpPrefix) → table_of server slot ≡ Some table → is_pending server p ≡ false
      → get_at same_prefix p table ≡ offer domain (announced_at server.announcements p) server.edges slot
  pub canonical : AreCanonical server.announcements
  pub pending : AllByRecursion IsPrefix server.pending
  pub announced : AllByRecursion IsPrefix (announced_prefixes server.announcements)

-- ---- forms

include-form : (p : IpPrefix) (ps : List IpPrefix) → IsPrefix p → AllByRecursion IsPrefix ps → AllByRecursion IsPrefix (include p ps)
include-form p [] h hs = (h, tt)
include-form p (q ∷ ps) h hs =
    elim (cases_Bool (same_prefix p q)) [
      | inl e ↦ rw e hs
      | inr e ↦ rw e (
          elim (cases_Bool (is_before p q)) [
            | inl b ↦ rw b (h, hs)
            | inr b ↦ rw b (hs.0, include-form p ps h hs.1)
          ])
    ]

pub include_all-form : (ps qs : List IpPrefix) → AllByRecursion IsPrefix ps → AllByRecursion IsPrefix qs → AllByRecursion IsPrefix (include_all ps qs)
include_all-form [] qs h hs = hs
include_all-form (p ∷ ps) qs h hs = include_all-form ps (include p qs) h.1 (include-form p qs h.0 hs)

put_at-form : (place : Place) (octets : List ℕ) (a : Announcements) → IsPrefix place.1 → AllByRecursion IsPrefix (announced_prefixes a) → AllByRecursion IsPrefix (announced_prefixes (put_at same_place place octets a))
put_at-form place octets [] h hs = (h, tt)
put_at-form place octets (entry ∷ a) h hs =
    elim (cases_Bool (same_place place entry.0)) [
      | inl e ↦ rw e (h, hs.1)
      | inr e ↦ rw e (hs.0, put_at-form place octets a h hs.1)
    ]

pub kept-form : (test : (Place × List ℕ) → Bool) (a : Announcements) → AllByRecursion IsPrefix (announced_prefixes a) → AllByRecursion IsPrefix (announced_prefixes (filter test a))
kept-form test [] h = tt
kept-form test (entry ∷ a) h =
    elim (cases_Bool (test entry)) [
      | inl e ↦ rw e (h.0, kept-form test a h.1)
      | inr e ↦ rw e (kept-form test a h.1)
    ]

set_at-form : (place : Place) (octets : Option (List ℕ)) (a : Announcements) → IsPrefix place.1 → AllByRecursion IsPrefix (announced_prefixes a) → AllByRecursion IsPrefix (announced_prefixes (set_at same_place place octets a))
set_at-form place None a h hs = kept-form (λ entry. not (same_place place entry.0)) a hs
set_at-form place (Some octets) a h hs = put_at-form place octets a h hs

-- ---- a router comes up

empty_table : (table : Table) → Some [] ≡ Some table → table ≡ []
empty_table table given = cc

pub settled-up : (domain : Domain) (slot : ℕ) (server : Server) → Settled domain server → Settled domain (after domain (Up slot) server)
unfolding after
settled-up domain slot server h = record {
  offers = λ s table p is not_pending.
      let quiet : (is_among (announced_prefixes server.announcements) p || is_among server.pending p) ≡ false = sym (is_among-include_all (announced_prefixes server.announcements) server.pending p) ∙ not_pending in
      let parts = or_parts _ _ quiet in
      elim (cases_Bool (eqb s slot)) [
        | inl e ↦
            let s_is : s ≡ slot = eqb-true s slot e in
            let given : Some [] ≡ Some table = sym (get_at-put_at_same same_number number_test slot [] server.tables) ∙ ap (λ (k : ℕ). get_at same_number k (put_at same_number slot [] server.tables)) (sym s_is) ∙ is in
            let empty : table ≡ [] = empty_table table given in
            rw empty (sym (offer-none domain (announced_at server.announcements p) server.edges s (λ e. unannounced server.announcements e p parts.0)))
        | inr e ↦
            h.offers s table p (sym (get_at-put_at_other same_number number_test slot s [] server.tables e) ∙ is) parts.1
      ];
  canonical = h.canonical;
  pending = include_all-form (announced_prefixes server.announcements) server.pending h.announced h.pending;
  announced = h.announced;
}

-- ---- a router goes down

-- what a slot announces is among its prefixes
own-among : (a : Announcements) (slot : ℕ) (p : IpPrefix) (octets : List ℕ) → announced_by a slot p ≡ Some octets → is_among (announced_prefixes (of_slot slot a)) p ≡ true
own-among [] slot p octets h = absurd cc
own-among (entry ∷ a) slot p octets h =
    elim (cases_Bool (same_place (slot, p) entry.0)) [
      | inl s ↦
          let parts = and_parts (eqb slot entry.0.0) (same_prefix p entry.0.1) s in
          let own : eqb entry.0.0 slot ≡ true = eq-eqb entry.0.0 slot (sym (eqb-true slot entry.0.0 parts.0)) in
          rw own (or_left (same_prefix p entry.0.1) _ parts.1)
      | inr s ↦ elim (cases_Bool (eqb entry.0.0 slot)) [
        | inl own ↦ rw own (or_right (same_prefix p entry.0.1) _ (own-among a slot p octets (rw s at h)))
        | inr other ↦ rw other (own-among a slot p octets (rw s at h))
      ]
    ]

unannounced_own : (a : Announcements) (slot : ℕ) (p : IpPrefix) → is_among (announced_prefixes (of_slot slot a)) p ≡ false → announced_by a slot p ≡ None
unannounced_own a slot p h = by_cases (announced_by a slot p) refl where
  by_cases : (found : Option (List ℕ)) → announced_by a slot p ≡ found → announced_by a slot p ≡ None
  by_cases None is = is
  by_cases (Some octets) is = absurd (both_ways (is_among (announced_prefixes (of_slot slot a)) p) h (own-among a slot p octets is))

module _ (a : Announcements) (slot : ℕ) where
  -- the announcements without those of the slot
  left : Announcements
  left = filter (λ entry. not (eqb entry.0.0 slot)) a

  left-own : (e : ℕ) (p : IpPrefix) → eqb e slot ≡ true → announced_by left e p ≡ None
  unfolding left
  left-own e p own = get_at-without_passed same_place place_test (λ (place : Place). eqb place.0 slot) (e, p) a own

  left-other : (e : ℕ) (p : IpPrefix) → eqb e slot ≡ false → announced_by left e p ≡ announced_by a e p
  unfolding left
  left-other e p other = get_at-without_left same_place place_test (λ (place : Place). eqb place.0 slot) (e, p) a other

  -- at a prefix that the slot doesn't announce nothing changes
  left-same : (e : ℕ) (p : IpPrefix) → announced_by a slot p ≡ None → announced_by a e p ≡ announced_by left e p
  left-same e p none =
      elim (cases_Bool (eqb e slot)) [
        | inl own ↦ let e_is : e ≡ slot = eqb-true e slot own in
            ap (λ (k : ℕ). announced_by a k p) e_is ∙ none ∙ sym (left-own e p own)
        | inr other ↦ sym (left-other e p other)
      ]

  left-canonical : AreCanonical a → AreCanonical left
  left-canonical h = record {
    each = λ e p octets is.
        elim (cases_Bool (eqb e slot)) [
          | inl own ↦ let no : None ≡ Some octets = sym (left-own e p own) ∙ is in absurd cc
          | inr other ↦ h.each e p octets (sym (left-other e p other) ∙ is)
        ];
  }

none_some : (table : Table) → None ≡ Some table → ⊥
none_some table e = cc

pub settled-down : (domain : Domain) (slot : ℕ) (server : Server) → Settled domain server → Settled domain (after domain (Down slot) server)
unfolding after left
settled-down domain slot server h = record {
  offers = λ s table p is not_pending.
      let quiet : (is_among (announced_prefixes (of_slot slot server.announcements)) p || is_among server.pending p) ≡ false
      = sym (is_among-include_all (announced_prefixes (of_slot slot server.announcements)) server.pending p) ∙ not_pending in
      let parts = or_parts _ _ quiet in
      elim (cases_Bool (eqb slot s)) [
        | inl own ↦
            absurd (none_some table (sym (get_at-without_passed same_number number_test (same_number slot) s server.tables own) ∙ is))
        | inr other ↦
            h.offers s table p (sym (get_at-without_left same_number number_test (same_number slot) s server.tables other) ∙ is) parts.1
            ∙ ap (λ announced. offer domain announced server.edges s)
            (λ i e. left-same server.announcements slot e p (unannounced_own server.announcements slot p parts.0) i)
      ];
  canonical = left-canonical server.announcements slot h.canonical;
  pending = include_all-form (announced_prefixes (of_slot slot server.announcements)) server.pending (kept-form (λ entry. eqb entry.0.0 slot) server.announcements h.announced) h.pending;
  announced = kept-form (λ entry. not (eqb entry.0.0 slot)) server.announcements h.announced;
}

-- ---- an announcement changes

place-other : (a b : Place) → same_place a b ≡ false → same_place b a ≡ false
place-other a b h =
    elim (cases_Bool (same_place b a)) [
      | inl e ↦ let k : b ≡ a = same_place-is b a e in
          absurd (both_ways (same_place a b) h (rw k (place_test.itself a)))
      | inr e ↦ e
    ]

canonical-set : (a : Announcements) (slot : ℕ) (p : IpPrefix) (octets : Option (List ℕ)) → AreCanonical a
    → ((o : List ℕ) → octets ≡ Some o → canonical_octets (attributes_in o) ≡ o) → AreCanonical (set_at same_place (slot, p) octets a)
canonical-set a slot p octets h good = record {
  each = λ s q o is.
      elim (cases_Bool (same_place (s, q) (slot, p))) [
        | inl e ↦
            let there : (s, q) ≡ (slot, p) = same_place-is (s, q) (slot, p) e in
            good o (sym (get_at-set_at_same same_place place_test (slot, p) octets a) ∙ ap (λ (k : Place). get_at same_place k (set_at same_place (slot, p) octets a)) (sym there) ∙ is)
        | inr e ↦ h.each s q o (sym (get_at-set_at_other same_place place_test (slot, p) (s, q) octets a e (place-other (s, q) (slot, p) e)) ∙ is)
      ];
}

changed : (slot : ℕ) (p : IpPrefix) (octets : Option (List ℕ)) (server : Server) → Server
changed slot p octets server = record server { announcements = set_at same_place (slot, p) octets server.announcements; pending = include p server.pending }

settled-changed : (domain : Domain) (slot : ℕ) (p : IpPrefix) (octets : Option (List ℕ)) (server : Server) → IsPrefix p
    → ((o : List ℕ) → octets ≡ Some o → canonical_octets (attributes_in o) ≡ o) → Settled domain server → Settled domain (changed slot p octets server)
unfolding changed
settled-changed domain slot p octets server form good h = record {
  offers = λ s table q is not_pending.
      let parts = or_parts (same_prefix q p) (is_among server.pending q) (sym (is_among-include p q server.pending) ∙ not_pending) in
      h.offers s table q is parts.1
      ∙ ap (λ announced. offer domain announced server.edges s)
      (λ i e. sym (announced-other server.announcements slot e p q octets (same_prefix-other q p parts.0)) i);
  canonical = canonical-set server.announcements slot p octets h.canonical good;
  pending = include-form p server.pending form h.pending;
  announced = set_at-form (slot, p) octets server.announcements form h.announced;
}

pub settled-change : (domain : Domain) (slot : ℕ) (p : IpPrefix) (octets : Option (List ℕ)) (server : Server) → IsPrefix p
    → ((o : List ℕ) → octets ≡ Some o → canonical_octets (attributes_in o) ≡ o) → Settled domain server → Settled domain (after domain (Change slot p octets) server)
unfolding after changed
settled-change domain slot p octets server form good h =
    elim (cases_Bool (is_connected server slot && not (same_octets (announced_by server.announcements slot p) octets))) [
      | inl e ↦ rw e (settled-changed domain slot p octets server form good h)
      | inr e ↦ rw e h
    ]

-- ---- a prefix is worked

-- what is still among the others
not_among-filter : (p q : IpPrefix) (ps : List IpPrefix) → is_among (filter (λ r. not (same_prefix p r)) ps) q ≡ false → (same_prefix p q ≡ true) ⊎ (is_among ps q ≡ false)
not_among-filter p q [] h = inr refl
not_among-filter p q (r ∷ ps) h =
    elim (cases_Bool (same_prefix p r)) [
      | inl e ↦ elim (not_among-filter p q ps (rw e at h)) [
        | inl s ↦ inl s
        | inr n ↦ elim (cases_Bool (same_prefix q r)) [
          | inl t ↦ let k : q ≡ r = same_prefix-is q r t in inl (rw k e)
          | inr t ↦ inr (or_from _ _ t n)
        ]
      ]
      | inr e ↦
          let parts = or_parts (same_prefix q r) (is_among (filter (λ r. not (same_prefix p r)) ps) q) (rw e at h) in
          elim (not_among-filter p q ps parts.1) [
            | inl s ↦ inl s
            | inr n ↦ inr (or_from _ _ parts.0 n)
          ]
    ]

-- the table of a slot after work on a prefix
pub worked-table : (domain : Domain) (a : Announcements) (edges : List Edge) (p : IpPrefix) (slot : ℕ) (tables : List (ℕ × Table)) (table : Table)
    → get_at same_number slot tables ≡ Some table → get_at same_number slot (worked domain a edges p tables) ≡ Some (set_at same_prefix p (offer domain (announced_at a p) edges slot) table)
worked-table domain a edges p slot [] table is = absurd cc
worked-table domain a edges p slot (entry ∷ tables) table is =
    elim (cases_Bool (eqb slot entry.0)) [
      | inl e ↦
          let slot_is : slot ≡ entry.0 = eqb-true slot entry.0 e in
          let same : Some entry.1 ≡ Some table = rw e at is in
          let table_is : entry.1 ≡ table = cc in
          rw (e, ← slot_is, table_is) refl
      | inr e ↦ rw e (worked-table domain a edges p slot tables table (rw e at is))
    ]

worked-none : (domain : Domain) (a : Announcements) (edges : List Edge) (p : IpPrefix) (slot : ℕ) (tables : List (ℕ × Table))
    → get_at same_number slot tables ≡ None → get_at same_number slot (worked domain a edges p tables) ≡ None
worked-none domain a edges p slot [] is = refl
worked-none domain a edges p slot (entry ∷ tables) is =
    elim (cases_Bool (eqb slot entry.0)) [
      | inl e ↦ let no : Some entry.1 ≡ None = rw e at is in absurd cc
      | inr e ↦ rw e (worked-none domain a edges p slot tables (rw e at is))
    ]

-- the table that a slot had before a prefix was worked
worked-from : (domain : Domain) (a : Announcements) (edges : List Edge) (p : IpPrefix) (slot : ℕ) (tables : List (ℕ × Table)) (table : Table)
    → get_at same_number slot (worked domain a edges p tables) ≡ Some table
    → (old : Table) × (get_at same_number slot tables ≡ Some old) × (table ≡ set_at same_prefix p (offer domain (announced_at a p) edges slot) old)
worked-from domain a edges p slot tables table is = by_cases (get_at same_number slot tables) refl where
  by_cases : (found : Option Table) → get_at same_number slot tables ≡ found
      → (old : Table) × (get_at same_number slot tables ≡ Some old) × (table ≡ set_at same_prefix p (offer domain (announced_at a p) edges slot) old)
  by_cases None found = let no : None ≡ Some table = sym (worked-none domain a edges p slot tables found) ∙ is in absurd cc
  by_cases (Some old) found =
      let same : Some (set_at same_prefix p (offer domain (announced_at a p) edges slot) old) ≡ Some table = sym (worked-table domain a edges p slot tables old found) ∙ is in
      (old, found, cc)

pub settled-work : (domain : Domain) (p : IpPrefix) (server : Server) → Settled domain server → Settled domain (after domain (Work p) server)
unfolding after
settled-work domain p server h = record {
  offers = λ s table q is not_pending.
      let before = worked-from domain server.announcements server.edges p s server.tables table is in
      rw before.2 (
      elim (cases_Bool (same_prefix p q)) [
        | inl e ↦ let k : p ≡ q = same_prefix-is p q e in
            rw (← k) (get_at-set_at_same same_prefix prefix_test p (offer domain (announced_at server.announcements p) server.edges s) before.0)
        | inr e ↦
            let quiet : is_among server.pending q ≡ false = elim (not_among-filter p q server.pending not_pending) [ inl t ↦ absurd (both_ways (same_prefix p q) e t) | inr n ↦ n ] in
            get_at-set_at_other same_prefix prefix_test p q (offer domain (announced_at server.announcements p) server.edges s) before.0 (same_prefix-other p q e) e ∙ h.offers s before.0 q before.1 quiet
      ]);
  canonical = h.canonical;
  pending = filter-keeps IsPrefix (λ q. not (same_prefix p q)) server.pending h.pending;
  announced = h.announced;
}
