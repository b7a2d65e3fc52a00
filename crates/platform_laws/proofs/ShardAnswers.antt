-- What is asked of a platform, read from its shards.
use Rattle.std.proofs.Common.{◌≡◌, ℕ, zero, suc, ◌+◌, ◌<◌, ◌≤◌, Bool, true, false, cond, ◌&&◌, List, [], ◌∷◌, length, Option, Some, None, IfSome, option_map, refl, sym, ap, ◌∙◌, subst, arith, bytes_eq}
use Rattle.std.specs.Prelude.{slice_get}
use Rattle.std.specs.FinSet as set_of
use Rattle.std.proofs.lemmas.Bool.{eq-eqb}
use Rattle.rcp_base.specs.IpPrefix.{IpPrefix}
use Rattle.rcp_base.specs.Roster.{RosterOf}
use Rattle.rcp_model.specs.Routes.{RouteFields, route_of}
use Rattle.rcp_model.specs.RouteServer.{Server, Announcements, announced_by, announced_prefixes}
use Rattle.rcp_model.specs.RouteServer as lists
use Rattle.rcp_model.specs.ServerRibs.{Ribs, same_values, same_route, at_prefix, is_up, has_pending, part, is_of}
use Rattle.rib_laws.specs.Readings.{IsRead, IsCanonical}
use Rattle.rib_laws.proofs.RibLookups.{same_test}
use Rattle.rib_laws.proofs.PartLemmas.{get-owned, contains-owned}
use Rattle.rib_laws.proofs.PendingLemmas.{octets_exact, route_exact}
use Rattle.platform_laws.specs.Parts.{shard_number, own_route, AreReadFrom, AreParts}
use Rattle.platform_laws.specs.Asked.{shard_of, is_up_in, is_connected, waits_in, is_pending, announced_in, given_in, announced_route, given_route, octets_of, up_count, connected_count}

-- ---- the shard of a prefix

-- a place in a list that is long enough has an element
pub found_at : {X : Type 0} (xs : List X) (n : ℕ) → n < length xs → (x : X) × (slice_get xs n ≡ Some x)
found_at [] n within = absurd (omega (arith, within))
found_at (x ∷ xs) zero within = (x, refl)
found_at (x ∷ xs) (suc n) within = found_at xs n (omega (arith, within))

pub read-at : (roster : RosterOf) (octets : Ribs (List ℕ)) (number n : ℕ) (shards : List (Ribs RouteFields)) (ribs : Ribs RouteFields) → AreReadFrom roster octets number shards
    → slice_get shards n ≡ Some ribs → IsRead (own_route roster) (part (is_of (shard_number roster) (n + number)) octets) ribs
read-at roster octets number n [] ribs read is = absurd cc
read-at roster octets number zero (first ∷ shards) ribs read is =
    let first_is : first ≡ ribs = cc in
    let same : number ≡ 0 + number = omega arith in
    subst (λ k. IsRead (own_route roster) (part (is_of (shard_number roster) k) octets) ribs) same
    (subst (λ r. IsRead (own_route roster) (part (is_of (shard_number roster) number) octets) r) first_is read.0)
read-at roster octets number (suc n) (first ∷ shards) ribs read is =
    let same : n + suc number ≡ suc n + number = omega arith in
    subst (λ k. IsRead (own_route roster) (part (is_of (shard_number roster) k) octets) ribs) same (read-at roster octets (suc number) n shards ribs read.1 is)

pub number-below : (roster : RosterOf) (p : IpPrefix) → 1 ≤ roster.shards → shard_number roster p < roster.shards
number-below roster p some = omega (arith, some)

module _ (roster : RosterOf) (octets : Ribs (List ℕ)) (shards : List (Ribs RouteFields)) (h : AreParts roster octets shards) where
  -- the shard of a prefix, which is the part of its number
  pub own_shard : (p : IpPrefix) → (ribs : Ribs RouteFields) × (shard_of roster shards p ≡ Some ribs) × IsRead (own_route roster) (part (is_of (shard_number roster) (shard_number roster p)) octets) ribs
  own_shard p =
      let below = number-below roster p h.some in
      let found = found_at shards (shard_number roster p) (omega (arith, below, h.count)) in
      let same : shard_number roster p + 0 ≡ shard_number roster p = omega arith in
      (found.0, found.1, subst (λ k. IsRead (own_route roster) (part (is_of (shard_number roster) k) octets) found.0) same (read-at roster octets 0 (shard_number roster p) shards found.0 h.read found.1))

  own : (p : IpPrefix) → is_of (shard_number roster) (shard_number roster p) p ≡ true
  own p = eq-eqb (shard_number roster p) (shard_number roster p) refl

  first_shard : (ribs : Ribs RouteFields) × (slice_get shards 0 ≡ Some ribs) × (ribs.connected ≡ octets.connected)
  first_shard =
      let found = found_at shards 0 (omega (arith, h.count, h.some)) in
      (found.0, found.1, (read-at roster octets 0 0 shards found.0 h.read found.1).connected)

  pub connected-seen : (slot : ℕ) → is_connected shards slot ≡ is_up octets slot
  connected-seen slot = ap (λ o. is_up_in o slot) first_shard.1 ∙ ap (λ c. set_of.contains c slot) first_shard.2

  pub connected_count-seen : connected_count shards ≡ set_of.len octets.connected
  connected_count-seen = ap up_count first_shard.1 ∙ ap set_of.len first_shard.2

  whole_pending : (b : Bool) → (b && true) ≡ b
  whole_pending true = refl
  whole_pending false = refl

  pub pending-seen : (p : IpPrefix) → is_pending roster shards p ≡ has_pending octets p
  pending-seen p =
      let found = own_shard p in
      ap (λ o. waits_in o p) found.1 ∙ ap (λ s. set_of.contains s p) found.2.pending
      ∙ contains-owned (is_of (shard_number roster) (shard_number roster p)) octets.pending p
      ∙ ap (λ b. has_pending octets p && b) (own p) ∙ whole_pending (has_pending octets p)

  pub announced-read : (p : IpPrefix) (slot : ℕ) → announced_route roster shards p slot ≡ option_map (own_route roster) (at_prefix octets.announced p slot)
  announced-read p slot =
      let found = own_shard p in
      ap (λ o. announced_in o p slot) found.1 ∙ found.2.announced p slot
      ∙ ap (option_map (own_route roster))
      (get-owned (is_of (shard_number roster) (shard_number roster p)) octets.announced p slot ∙ ap (λ b. cond b (at_prefix octets.announced p slot) None) (own p))

  pub given-read : (p : IpPrefix) (slot : ℕ) → given_route roster shards p slot ≡ option_map (own_route roster) (at_prefix octets.given p slot)
  given-read p slot =
      let found = own_shard p in
      ap (λ o. given_in o p slot) found.1 ∙ found.2.given p slot
      ∙ ap (option_map (own_route roster))
      (get-owned (is_of (shard_number roster) (shard_number roster p)) octets.given p slot ∙ ap (λ b. cond b (at_prefix octets.given p slot) None) (own p))

-- ---- octets of routes

own_attrs : (roster : RosterOf) (octets : List ℕ) → IsCanonical octets → (own_route roster octets).attrs ≡ octets
unfolding route_of
own_attrs roster octets canonical = canonical

pub octets-back : (roster : RosterOf) (found : Option (List ℕ)) → IfSome found IsCanonical → octets_of (option_map (own_route roster) found) ≡ found
octets-back roster None h = refl
octets-back roster (Some octets) h = ap Some (own_attrs roster octets h)

pub same-back : (roster : RosterOf) (a b : Option (List ℕ)) → IfSome a IsCanonical → IfSome b IsCanonical
    → same_values same_route (option_map (own_route roster) a) (option_map (own_route roster) b) ≡ lists.same_octets a b
same-back roster None None h g = refl
same-back roster None (Some b) h g = refl
same-back roster (Some a) None h g = refl
same-back roster (Some a) (Some b) h g = same_test (same_route (own_route roster a) (own_route roster b)) (bytes_eq a b)
    (λ e.
    let octets : a ≡ b = sym (own_attrs roster a h) ∙ ap (λ (r : RouteFields). r.attrs) (route_exact.sound (own_route roster a) (own_route roster b) e) ∙ own_attrs roster b g in
    subst (λ o. bytes_eq a o ≡ true) octets (octets_exact.itself a))
    (λ e. subst (λ o. same_route (own_route roster a) (own_route roster o) ≡ true) (octets_exact.sound a b e) (route_exact.itself (own_route roster a)))
