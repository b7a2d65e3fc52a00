-- Which prefixes are pending after each event, exactly.
use Rattle.std.proofs.Common.{◌≡◌, ◌≢◌, bytes_eq, ℕ, zero, suc, ◌<◌, Bool, true, false, cond, not, ◌&&◌, ◌||◌, ◌⊎◌, ◌↔◌, eqb, List, length, Option, Some, None, IsSome, refl, sym, ap, ◌∙◌, inl, inr, subst, arith}
use Rattle.std.specs.FinMap as map_of
use Rattle.std.specs.FinSet as set_of
use Rattle.std.proofs.lemmas.Bool.{and_parts, and_from, or_cases, or_left, or_right, eqb-true, eqb-false, eq-eqb, false≢true, not-true, not_from_false}
use Rattle.std.proofs.lemmas.Slice.Eq.{bytes_eq-Decides}
use Rattle.rcp_base.specs.IpPrefix.{IpPrefix}
use Rattle.rcp_base.specs.declared.names.Member.{Member}
use Rattle.rcp_base.specs.declared.names.Edge.{Edge}
use Rattle.rcp_base.specs.Maps.{same_prefix}
use Rattle.rcp_model.specs.Routes.{RouteFields}
use Rattle.rcp_model.specs.RouteServer.{Domain, Announced, Server, ServerEvent, same_cost, slot_cost, cost_differs, announced_at, is_connected, is_pending, after}
use Rattle.rcp_model.specs.Pending.{IsPendingAfter}
use Rattle.rcp_model.specs.ServerRibs.{Reader, IsExact, same_bit, same_route, same_values, octets_reader, RibEvent, Up, Down, Change, Links, Work, event_of, Ribs, at_prefix, with_value, prefixes_of, is_up, has_pending, ribs_after, ribs_of}
use Rattle.rcp_base.proofs.MapLemmas.{same_prefix-is, same_prefix-itself}
use Rattle.rcp_model.proofs.RibLemmas.{prefix_total}
use Rattle.rib_laws.proofs.RibLookups.{prefix_tied, Has, has_of_prefixes, prefixes_of_has}
use Rattle.rib_laws.proofs.ListLookups.{up_in_lists, announced_in_lists, pending_in_lists}
use Rattle.rib_laws.proofs.JoinLemmas.{join}

-- ---- the tests of what is announced and of costs

module _ {V : Type 0} (same : V → V → Bool) (exact : IsExact same) where
  values_same : (a b : Option V) → same_values same a b ≡ true → a ≡ b
  values_same None None e = refl
  values_same None (Some b) e = absurd (false≢true e)
  values_same (Some a) None e = absurd (false≢true e)
  values_same (Some a) (Some b) e = ap Some (exact.sound a b e)

  value_itself : (a : Option V) → same_values same a a ≡ true
  value_itself None = refl
  value_itself (Some a) = exact.itself a

  values_differ : (a b : Option V) → a ≢ b → same_values same a b ≡ false
  values_differ a b differ = at_test (same_values same a b) refl where
    at_test : (t : Bool) → same_values same a b ≡ t → t ≡ false
    at_test true e = absurd (differ (values_same a b e))
    at_test false e = refl

  not_same : (a b : Option V) → not (same_values same a b) ≡ true → a ≢ b
  not_same a b other are = false≢true (sym (not-true (same_values same a b) other) ∙ ap (λ (o : Option V). same_values same a o) (sym are) ∙ value_itself a)

pub octets_exact : IsExact bytes_eq
octets_exact = record { sound = λ a b e. (bytes_eq-Decides a b).0 e; itself = λ a. (bytes_eq-Decides a a).1 refl }

bit_same : (a b : Bool) → same_bit a b ≡ true → a ≡ b
bit_same true true e = refl
bit_same true false e = absurd (false≢true e)
bit_same false true e = absurd (false≢true e)
bit_same false false e = refl

bit_itself : (a : Bool) → same_bit a a ≡ true
bit_itself true = refl
bit_itself false = refl

same_fields : (a b : RouteFields) → same_route a b ≡ true → a ≡ b
same_fields a b e =
    let pref = and_parts (eqb a.pref b.pref) _ e in
    let hops = and_parts (eqb a.hops b.hops) _ pref.1 in
    let origin = and_parts (eqb a.origin b.origin) _ hops.1 in
    let neighbour = and_parts (eqb a.neighbour b.neighbour) _ origin.1 in
    let med = and_parts (eqb a.med b.med) _ neighbour.1 in
    let looped = and_parts (same_bit a.looped b.looped) _ med.1 in
    let long = and_parts (same_bit a.long b.long) _ looped.1 in
    let next_hop = and_parts (eqb a.next_hop b.next_hop) _ long.1 in
    let pref_is = eqb-true a.pref b.pref pref.0 in
    let hops_is = eqb-true a.hops b.hops hops.0 in
    let origin_is = eqb-true a.origin b.origin origin.0 in
    let neighbour_is = eqb-true a.neighbour b.neighbour neighbour.0 in
    let med_is = eqb-true a.med b.med med.0 in
    let looped_is = bit_same a.looped b.looped looped.0 in
    let long_is = bit_same a.long b.long long.0 in
    let next_hop_is = eqb-true a.next_hop b.next_hop next_hop.0 in
    let attrs_is = (bytes_eq-Decides a.attrs b.attrs).0 next_hop.1 in
    λ i. record { pref = pref_is i; hops = hops_is i; origin = origin_is i; neighbour = neighbour_is i; med = med_is i; looped = looped_is i; long = long_is i; next_hop = next_hop_is i; attrs = attrs_is i }

route_itself : (a : RouteFields) → same_route a a ≡ true
route_itself a =
    and_from _ _ (eq-eqb a.pref a.pref refl) (and_from _ _ (eq-eqb a.hops a.hops refl) (and_from _ _ (eq-eqb a.origin a.origin refl) (and_from _ _ (eq-eqb a.neighbour a.neighbour refl)
    (and_from _ _ (eq-eqb a.med a.med refl) (and_from _ _ (bit_itself a.looped) (and_from _ _ (bit_itself a.long) (and_from _ _ (eq-eqb a.next_hop a.next_hop refl) ((bytes_eq-Decides a.attrs a.attrs).1 refl))))))))

pub route_exact : IsExact same_route
route_exact = record { sound = same_fields; itself = route_itself }

pub cost_same : (a b : Option ℕ) → same_cost a b ≡ true → a ≡ b
cost_same None None e = refl
cost_same None (Some b) e = absurd (false≢true e)
cost_same (Some a) None e = absurd (false≢true e)
cost_same (Some a) (Some b) e = ap Some (eqb-true a b e)

cost_itself : (a : Option ℕ) → same_cost a a ≡ true
cost_itself None = refl
cost_itself (Some a) = eq-eqb a a refl

-- the cost from some slot below a number changes
abbrev Moves : List Edge → List Edge → List Member → ℕ → ℕ → Type 0
Moves before now members e count = (from : ℕ) × (from < count) × (slot_cost before members from e ≢ slot_cost now members from e)

moves_of_test : (before now : List Edge) (members : List Member) (e count : ℕ) → cost_differs before now members e count ≡ true → Moves before now members e count
moves_of_test before now members e zero t = absurd (false≢true t)
moves_of_test before now members e (suc q) t = elim (or_cases (not (same_cost (slot_cost before members q e) (slot_cost now members q e))) (cost_differs before now members e q) t) [
  | inl here ↦ (
    q,
    omega arith,
    λ same. false≢true (sym (not-true (same_cost (slot_cost before members q e) (slot_cost now members q e)) here)
        ∙ ap (same_cost (slot_cost before members q e)) (sym same) ∙ cost_itself (slot_cost before members q e)),
  )
  | inr rest ↦ let found = moves_of_test before now members e q rest in (found.0, omega (arith, found.1), found.2)
]

pub test_of_moves : (before now : List Edge) (members : List Member) (e count from : ℕ) → from < count → slot_cost before members from e ≢ slot_cost now members from e
    → cost_differs before now members e count ≡ true
test_of_moves before now members e zero from below differ = absurd (omega (arith, below))
test_of_moves before now members e (suc q) from below differ = at_test (eqb from q) refl (test_of_moves before now members e q from) where
  here : (t : Bool) → same_cost (slot_cost before members q e) (slot_cost now members q e) ≡ t → from ≡ q → not t ≡ true
  here true same is = absurd (differ (ap (λ s. slot_cost before members s e) is ∙ cost_same (slot_cost before members q e) (slot_cost now members q e) same ∙ ap (λ s. slot_cost now members s e) (sym is)))
  here false same is = refl

  at_test : (t : Bool) → eqb from q ≡ t → (from < q → slot_cost before members from e ≢ slot_cost now members from e → cost_differs before now members e q ≡ true)
      → (not (same_cost (slot_cost before members q e) (slot_cost now members q e)) || cost_differs before now members e q) ≡ true
  at_test true is rest = or_left (not (same_cost (slot_cost before members q e) (slot_cost now members q e))) (cost_differs before now members e q)
      (here (same_cost (slot_cost before members q e) (slot_cost now members q e)) refl (eqb-true from q is))
  at_test false is rest = let other : from ≢ q = eqb-false from q is in
      or_right (not (same_cost (slot_cost before members q e) (slot_cost now members q e))) (cost_differs before now members e q) (rest (omega (arith, below, other)) differ)

-- ---- the events

abbrev After : {V : Type 0} → Reader V → RibEvent V → Ribs V → IpPrefix → Type 0
After reader event ribs p = IsPendingAfter reader.members (is_up ribs) (at_prefix ribs.announced) ribs.edges (has_pending ribs) event p

-- where the prefixes of some slots come in addition
added : {V : Type 0} (test : ℕ → Bool) (ribs : Ribs V) (p : IpPrefix) (P : Type 0) → (Has test ribs.announced p → P) → (P → Has test ribs.announced p)
    → (set_of.contains (set_of.union ribs.pending (prefixes_of test ribs.announced)) p ≡ true) ↔ (((has_pending ribs p ≡ true) × Unit {0}) ⊎ P)
added test ribs p P to from = (
  (λ inside. elim (or_cases (has_pending ribs p) (set_of.contains (prefixes_of test ribs.announced) p) (sym (set_of.contains-union prefix_total ribs.pending (prefixes_of test ribs.announced) p) ∙ inside)) [
    | inl was ↦ inl (was, tt)
    | inr new ↦ inr (to (has_of_prefixes test ribs.announced p new))
  ]),
  (λ cases. set_of.contains-union prefix_total ribs.pending (prefixes_of test ribs.announced) p ∙ elim cases [
    | inl was ↦ or_left (has_pending ribs p) (set_of.contains (prefixes_of test ribs.announced) p) was.0
    | inr new ↦ or_right (has_pending ribs p) (set_of.contains (prefixes_of test ribs.announced) p) (prefixes_of_has test ribs.announced p (from new))
  ]),
)

pending_up : {V : Type 0} (reader : Reader V) (slot : ℕ) (ribs : Ribs V) (p : IpPrefix) → (has_pending (ribs_after reader (Up slot) ribs) p ≡ true) ↔ After reader (Up slot) ribs p
unfolding ribs_after
pending_up reader slot ribs p = added (λ e. true) ribs p ((e : ℕ) × IsSome (at_prefix ribs.announced p e))
    (λ has. (has.slot, has.there)) (λ some. record { slot = some.0; passes = refl; there = some.1 })

pending_down : {V : Type 0} (reader : Reader V) (slot : ℕ) (ribs : Ribs V) (p : IpPrefix) → (has_pending (ribs_after reader (Down slot) ribs) p ≡ true) ↔ After reader (Down slot) ribs p
unfolding ribs_after
pending_down reader slot ribs p = added (λ e. eqb e slot) ribs p (IsSome (at_prefix ribs.announced p slot))
    (λ has. subst (λ e. IsSome (at_prefix ribs.announced p e)) (eqb-true has.slot slot has.passes) has.there)
    (λ some. record { slot = slot; passes = eq-eqb slot slot refl; there = some })

pending_links : {V : Type 0} (reader : Reader V) (edges : List Edge) (ribs : Ribs V) (p : IpPrefix) → (has_pending (ribs_after reader (Links edges) ribs) p ≡ true) ↔ After reader (Links edges) ribs p
unfolding ribs_after
pending_links reader edges ribs p = added (λ e. cost_differs ribs.edges edges reader.members e (length reader.members)) ribs p
    ((e : ℕ) × IsSome (at_prefix ribs.announced p e) × Moves ribs.edges edges reader.members e (length reader.members))
    (λ has. (has.slot, has.there, moves_of_test ribs.edges edges reader.members has.slot (length reader.members) has.passes))
    (λ some. record { slot = some.0; passes = test_of_moves ribs.edges edges reader.members some.0 (length reader.members) some.2.0 some.2.1 some.2.2; there = some.1 })

pending_change : {V : Type 0} (reader : Reader V) → IsExact reader.same → (slot : ℕ) (q : IpPrefix) (octets : Option V) (ribs : Ribs V) (p : IpPrefix)
    → (has_pending (ribs_after reader (Change slot q octets) ribs) p ≡ true) ↔ After reader (Change slot q octets) ribs p
unfolding ribs_after
pending_change reader exact slot q octets ribs p = at_test (is_up ribs slot) refl (not (same_values reader.same (map_of.get ribs.announced (q, slot)) octets)) refl where
  inserted : (is_up ribs slot ≡ true) → (map_of.get ribs.announced (q, slot) ≢ octets)
      → (set_of.contains (set_of.insert ribs.pending q) p ≡ true) ↔ (((has_pending ribs p ≡ true) × Unit {0}) ⊎ ((p ≡ q) × (is_up ribs slot ≡ true) × (at_prefix ribs.announced p slot ≢ octets)))
  inserted up other = (
    (λ inside. elim (or_cases (same_prefix p q) (has_pending ribs p) (sym (ap (λ b. b || has_pending ribs p) (prefix_tied p q)) ∙ sym (set_of.contains-insert prefix_total ribs.pending q p) ∙ inside)) [
      | inl here ↦ let is : p ≡ q = same_prefix-is p q here in inr (is, up, λ same. other (ap (λ r. map_of.get ribs.announced (r, slot)) (sym is) ∙ same))
      | inr was ↦ inl (was, tt)
    ]),
    (λ cases. set_of.contains-insert prefix_total ribs.pending q p ∙ ap (λ b. b || has_pending ribs p) (prefix_tied p q) ∙ elim cases [
      | inl was ↦ or_right (same_prefix p q) (has_pending ribs p) was.0
      | inr new ↦ or_left (same_prefix p q) (has_pending ribs p) (subst (λ r. same_prefix p r ≡ true) new.0 (same_prefix-itself p))
    ]),
  )

  kept : ((p ≡ q) → (is_up ribs slot ≡ true) → (map_of.get ribs.announced (q, slot) ≢ octets) → ⊥)
      → (has_pending ribs p ≡ true) ↔ (((has_pending ribs p ≡ true) × Unit {0}) ⊎ ((p ≡ q) × (is_up ribs slot ≡ true) × (at_prefix ribs.announced p slot ≢ octets)))
  kept never = (
    (λ was. inl (was, tt)),
    (λ cases. elim cases [
      | inl was ↦ was.0
      | inr new ↦ absurd (never new.0 new.1 (λ same. new.2 (ap (λ r. map_of.get ribs.announced (r, slot)) new.0 ∙ same)))
    ]),
  )

  at_test : (up : Bool) → is_up ribs slot ≡ up → (other : Bool) → not (same_values reader.same (map_of.get ribs.announced (q, slot)) octets) ≡ other
      → (has_pending (cond (up && other) (record ribs { announced = with_value (q, slot) octets ribs.announced; pending = set_of.insert ribs.pending q }) ribs) p ≡ true) ↔ After reader (Change slot q octets) ribs p
  at_test true up true other = inserted up (not_same reader.same exact (map_of.get ribs.announced (q, slot)) octets other)
  at_test true up false other = kept (λ is u differ. false≢true (sym other ∙ not_from_false (same_values reader.same (map_of.get ribs.announced (q, slot)) octets) (values_differ reader.same exact (map_of.get ribs.announced (q, slot)) octets differ)))
  at_test false up other is = kept (λ same u differ. false≢true (sym up ∙ u))

pending_work : {V : Type 0} (reader : Reader V) (q : IpPrefix) (ribs : Ribs V) (p : IpPrefix) → (has_pending (ribs_after reader (Work q) ribs) p ≡ true) ↔ After reader (Work q) ribs p
unfolding ribs_after
pending_work reader q ribs p = (
  (λ inside.
      let both = and_parts (not (same_prefix p q)) (has_pending ribs p) (ap (λ b. not b && has_pending ribs p) (sym (prefix_tied p q)) ∙ sym (set_of.contains-remove prefix_total ribs.pending q p) ∙ inside) in
      inl (both.1, λ same. false≢true (sym (not-true (same_prefix p q) both.0) ∙ subst (λ r. same_prefix p r ≡ true) same (same_prefix-itself p)))),
  (λ cases. elim cases [
    | inl was ↦ set_of.contains-remove prefix_total ribs.pending q p ∙ ap (λ b. not b && has_pending ribs p) (prefix_tied p q)
        ∙ and_from (not (same_prefix p q)) (has_pending ribs p) (apart was.1) was.0
    | inr new ↦ absurd new
  ]),
) where
  apart : p ≢ q → not (same_prefix p q) ≡ true
  apart other = at_test (same_prefix p q) refl where
    at_test : (b : Bool) → same_prefix p q ≡ b → not b ≡ true
    at_test true is = absurd (other (same_prefix-is p q is))
    at_test false is = refl

pub pending_after : {V : Type 0} (reader : Reader V) → IsExact reader.same → (event : RibEvent V) (ribs : Ribs V) (p : IpPrefix) → (has_pending (ribs_after reader event ribs) p ≡ true) ↔ After reader event ribs p
pending_after reader exact (Up slot) ribs p = pending_up reader slot ribs p
pending_after reader exact (Down slot) ribs p = pending_down reader slot ribs p
pending_after reader exact (Change slot q octets) ribs p = pending_change reader exact slot q octets ribs p
pending_after reader exact (Links edges) ribs p = pending_links reader edges ribs p
pending_after reader exact (Work q) ribs p = pending_work reader q ribs p

-- ---- the same of the server of lists

pub pending_after_in_lists : (domain : Domain) (event : ServerEvent) (server : Server) (p : IpPrefix)
    → (is_pending (after domain event server) p ≡ true)
    ↔ IsPendingAfter domain.members (is_connected server) (announced_at server.announcements) server.edges (is_pending server) (event_of event) p
pending_after_in_lists domain event server p =
    subst (λ (x : (ℕ → Bool) × (IpPrefix → Announced) × (IpPrefix → Bool) × Bool). (x.3 ≡ true) ↔ IsPendingAfter domain.members x.0 x.1 server.edges x.2 (event_of event) p)
    (λ i. ((λ s. up_in_lists server s i), (λ q s. announced_in_lists server q s i), (λ q. pending_in_lists server q i), now i))
    (pending_after (octets_reader domain) octets_exact (event_of event) (ribs_of server) p) where
      now : has_pending (ribs_after (octets_reader domain) (event_of event) (ribs_of server)) p ≡ is_pending (after domain event server) p
      now = ap (λ (r : Ribs (List ℕ)). has_pending r p) (sym (join domain event server)) ∙ pending_in_lists (after domain event server) p
