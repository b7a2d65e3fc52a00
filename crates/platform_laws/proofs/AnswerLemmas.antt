-- What is asked of the shards is what is asked of the platform, and it is an assignment.
use Rattle.std.proofs.Common.{◌≡◌, ℕ, ◌+◌, true, false, List, Option, Some, None, IfSome, IsSome, is_some, ◌↔◌, option_map, refl, sym, ap, ◌∙◌, subst, arith}
use Rattle.std.specs.Prelude.{slice_get}
use Rattle.std.specs.FinSet as set_of
use Rattle.std.specs.Ordering.{nat_cmp}
use Rattle.std.proofs.lemmas.Bool.{eq-eqb, false≢true}
use Rattle.rcp_base.specs.IpPrefix.{IpPrefix}
use Rattle.rcp_base.specs.declared.names.Edge.{Edge}
use Rattle.rcp_base.specs.Roster.{RosterOf}
use Rattle.rcp_model.specs.Attributes.{number_width}
use Rattle.rcp_model.specs.Assigned.{IsSettled, IsAssignment}
use Rattle.rcp_model.specs.Costs.{IsTwoWay}
use Rattle.rcp_model.specs.Graphs.{IsGraph, AreMembers}
use Rattle.rcp_model.specs.Routes.{RouteFields, route_in}
use Rattle.rcp_model.specs.RouteServer.{Server, Announced, announced_by, announced_at, table_of, offer}
use Rattle.rcp_model.specs.RouteServer as lists
use Rattle.rcp_model.specs.Telling.{IsRouteOf}
use Rattle.rcp_model.specs.ServerRibs.{Values, octets_reader, Ribs, at_prefix, is_up, has_pending, offered, offer_of, ribs_of, part, is_of}
use Rattle.rib_laws.specs.Readings.{IsCanonical}
use Rattle.rib_laws.proofs.ListLookups.{up_in_lists, announced_in_lists, pending_in_lists, given_in_tables}
use Rattle.rib_laws.proofs.JoinLemmas.{offer_read, offers_join}
use Rattle.rib_laws.proofs.PartLemmas.{offered-owned}
use Rattle.rib_laws.proofs.ReadLemmas as reads
use Rattle.feed_meaning.specs.Platform.{Platform, domain_of}
use Rattle.feed_meaning.specs.Work.{cell_of}
use Rattle.platform_laws.specs.Parts.{shard_number, roster_reader, own_route, IsSoundShard, AreSound}
use Rattle.platform_laws.specs.Platforms.{PlatformOf, IsSeen}
use Rattle.platform_laws.specs.Asked.{shard_of, is_up_in, is_connected, waits_in, is_pending, announced_in, given_in, announced_route, given_route, octets_of}
use Rattle.platform_laws.proofs.EachValue.{offer-each}
use Rattle.platform_laws.proofs.CellSteps.{same-cell}
use Rattle.platform_laws.proofs.ShardAnswers.{found_at, read-at, number-below, own_shard, connected-seen, pending-seen, announced-read, given-read, octets-back}
use Rattle.platform_laws.proofs.SoundShards.{sound-at, own-announced, own-given, own-pending}

-- ---- what a platform answers

module _ (platform : Platform) (seen : PlatformOf) (h : IsSeen platform seen) where
  pub connected-asked : (slot : ℕ) → is_connected seen.shards slot ≡ lists.is_connected platform.server slot
  connected-asked slot = connected-seen platform.roster (ribs_of platform.server) seen.shards h.shards slot ∙ up_in_lists platform.server slot

  pub pending-asked : (p : IpPrefix) → is_pending seen.roster seen.shards p ≡ lists.is_pending platform.server p
  pending-asked p =
      ap (λ r. is_pending r seen.shards p) h.roster ∙ pending-seen platform.roster (ribs_of platform.server) seen.shards h.shards p ∙ pending_in_lists platform.server p

  pub announced-asked : (p : IpPrefix) (slot : ℕ) → octets_of (announced_route seen.roster seen.shards p slot) ≡ announced_by platform.server.announcements slot p
  announced-asked p slot =
      ap (λ r. octets_of (announced_route r seen.shards p slot)) h.roster
      ∙ ap octets_of (announced-read platform.roster (ribs_of platform.server) seen.shards h.shards p slot)
      ∙ octets-back platform.roster (at_prefix (ribs_of platform.server).announced p slot) (h.shards.canonical.announced p slot)
      ∙ announced_in_lists platform.server p slot

  pub given-asked : (p : IpPrefix) (slot : ℕ) → octets_of (given_route seen.roster seen.shards p slot) ≡ cell_of (table_of platform.server slot) p
  given-asked p slot =
      ap (λ r. octets_of (given_route r seen.shards p slot)) h.roster
      ∙ ap octets_of (given-read platform.roster (ribs_of platform.server) seen.shards h.shards p slot)
      ∙ octets-back platform.roster (at_prefix (ribs_of platform.server).given p slot) (h.shards.canonical.given p slot)
      ∙ given_in_tables platform.server.tables (p, slot) ∙ same-cell (table_of platform.server slot) p

  pub offered-asked : (p : IpPrefix) (slot : ℕ) (ribs : Ribs RouteFields) → shard_of seen.roster seen.shards p ≡ Some ribs
      → octets_of (offered (roster_reader seen.roster) ribs p slot) ≡ offer (domain_of platform.roster) (announced_at platform.server.announcements p) platform.server.edges slot
  offered-asked p slot ribs is =
      let found = own_shard platform.roster (ribs_of platform.server) seen.shards h.shards p in
      let same_shard : Some found.0 ≡ Some ribs = sym found.1 ∙ ap (λ r. shard_of r seen.shards p) (sym h.roster) ∙ is in
      let same : found.0 ≡ ribs = cc in
      (λ i. octets_of (offered (roster_reader (h.roster i)) (sym same i) p slot))
      ∙ ap octets_of (reads.routes_offered (domain_of platform.roster) (part (is_of (shard_number platform.roster) (shard_number platform.roster p)) (ribs_of platform.server)) found.0 found.2 p slot
      ∙ ap (option_map (own_route platform.roster))
      (offered-owned (is_of (shard_number platform.roster) (shard_number platform.roster p)) (octets_reader (domain_of platform.roster)) (ribs_of platform.server) p slot
      (own_prefix platform.roster p)))
      ∙ octets-back platform.roster (offered (octets_reader (domain_of platform.roster)) (ribs_of platform.server) p slot)
      (offer-each IsCanonical (octets_reader (domain_of platform.roster)) (at_prefix (ribs_of platform.server).announced p) platform.server.edges slot (h.shards.canonical.announced p))
      ∙ offers_join (domain_of platform.roster) platform.server p slot where
        own_prefix : (roster : RosterOf) (p : IpPrefix) → is_of (shard_number roster) (shard_number roster p) p ≡ true
        own_prefix roster p = eq-eqb (shard_number roster p) (shard_number roster p) refl

pub shard-edges : (platform : Platform) (seen : PlatformOf) (n : ℕ) (ribs : Ribs RouteFields) → IsSeen platform seen → slice_get seen.shards n ≡ Some ribs → ribs.edges ≡ platform.server.edges
shard-edges platform seen n ribs h is = (read-at platform.roster (ribs_of platform.server) 0 n seen.shards ribs h.shards.read is).edges

-- ---- the law of an assignment

-- the routes of some announcements that have the fields of their octets
from_octets : (as_number : ℕ) (o : Option RouteFields) → IfSome o (IsRouteOf as_number) → o ≡ option_map (λ octets. route_in number_width as_number octets) (octets_of o)
from_octets as_number None h = refl
from_octets as_number (Some route) h = ap Some h.fields

octets-canonical : (as_number : ℕ) (o : Option RouteFields) → IfSome o (IsRouteOf as_number) → IfSome (octets_of o) IsCanonical
octets-canonical as_number None h = tt
octets-canonical as_number (Some route) h = h.canonical

offers-octets : (roster : RosterOf) (values : Values RouteFields) (edges : List Edge) (slot : ℕ) → ((e : ℕ) → IfSome (values e) (IsRouteOf roster.as_number))
    → octets_of (offer_of (roster_reader roster) values edges slot) ≡ offer (domain_of roster) (λ e. octets_of (values e)) edges slot
offers-octets roster values edges slot h =
    ap octets_of ((λ i. offer_of (roster_reader roster) (λ e. from_octets roster.as_number (values e) (h e) i) edges slot)
    ∙ reads.offer_read (octets_reader (domain_of roster)) (roster_reader roster) (own_route roster) (record { members = refl; routes = λ value. refl }) (λ e. octets_of (values e)) edges slot)
    ∙ octets-back roster (offer_of (octets_reader (domain_of roster)) (λ e. octets_of (values e)) edges slot)
    (offer-each IsCanonical (octets_reader (domain_of roster)) (λ e. octets_of (values e)) edges slot (λ e. octets-canonical roster.as_number (values e) (h e)))
    ∙ offer_read (domain_of roster) (λ e. octets_of (values e)) edges slot

module _ (roster : RosterOf) (edges : List Edge) (connected : set_of.FinSet nat_cmp) (shards : List (Ribs RouteFields)) (h : AreSound roster edges connected shards) where
  sound_shard : (p : IpPrefix) → (ribs : Ribs RouteFields) × (shard_of roster shards p ≡ Some ribs) × IsSoundShard roster edges connected (shard_number roster p) ribs
  sound_shard p =
      let below = number-below roster p h.some in
      let found = found_at shards (shard_number roster p) (omega (arith, below, h.count)) in
      let same : shard_number roster p + 0 ≡ shard_number roster p = omega arith in
      (found.0, found.1, subst (λ k. IsSoundShard roster edges connected k found.0) same (sound-at roster edges connected 0 (shard_number roster p) shards found.0 h.each found.1))

  pub connected-sound : (slot : ℕ) → is_connected shards slot ≡ set_of.contains connected slot
  connected-sound slot =
      let found = found_at shards 0 (omega (arith, h.count, h.some)) in
      ap (λ o. is_up_in o slot) found.1 ∙ ap (λ c. set_of.contains c slot) (sound-at roster edges connected 0 0 shards found.0 h.each found.1).connected_are

  settled-sound : IsSettled (domain_of roster) edges (is_connected shards) (λ p slot. octets_of (announced_route roster shards p slot)) (λ p slot. octets_of (given_route roster shards p slot)) (is_pending roster shards)
  settled-sound slot p up quiet =
      let found = sound_shard p in
      let here = found.2 in
      let is_up_here : is_up found.0 slot ≡ true = ap (λ c. set_of.contains c slot) here.connected_are ∙ sym (connected-sound slot) ∙ up in
      let quiet_here : has_pending found.0 p ≡ false = sym (ap (λ o. waits_in o p) found.1) ∙ quiet in
      ap (λ o. octets_of (given_in o p slot)) found.1
      ∙ ap octets_of (here.settled slot p is_up_here quiet_here)
      ∙ offers-octets roster (at_prefix found.0.announced p) found.0.edges slot (here.routes.announced p)
      ∙ (λ i. offer (domain_of roster) (λ e. octets_of (announced_in (sym found.1 i) p e)) (here.edges_are i) slot)

  pub assignment : AreMembers roster.members → IsGraph edges → IsTwoWay edges
      → IsAssignment (domain_of roster) edges (is_connected shards) (λ p slot. octets_of (announced_route roster shards p slot)) (λ p slot. octets_of (given_route roster shards p slot)) (is_pending roster shards)
  assignment members graph two_way = record { members = members; graph = graph; two_way = two_way; settled = settled-sound }

  pub fields-sound : (p : IpPrefix) (slot : ℕ) → IfSome (announced_route roster shards p slot) (IsRouteOf roster.as_number) × IfSome (given_route roster shards p slot) (IsRouteOf roster.as_number)
  fields-sound p slot =
      let found = sound_shard p in (
        subst (λ o. IfSome (announced_in o p slot) (IsRouteOf roster.as_number)) (sym found.1) (found.2.routes.announced p slot),
        subst (λ o. IfSome (given_in o p slot) (IsRouteOf roster.as_number)) (sym found.1) (found.2.routes.given p slot),
      )

-- what a shard has is of its own prefixes
module _ (roster : RosterOf) (edges : List Edge) (connected : set_of.FinSet nat_cmp) (shards : List (Ribs RouteFields)) (h : AreSound roster edges connected shards) (n : ℕ) (ribs : Ribs RouteFields) (is : slice_get shards n ≡ Some ribs) where
  pub here : IsSoundShard roster edges connected n ribs
  here = let same : n + 0 ≡ n = omega arith in subst (λ k. IsSoundShard roster edges connected k ribs) same (sound-at roster edges connected 0 n shards ribs h.each is)

  pub own-prefixes : (p : IpPrefix) (slot : ℕ) → (IsSome (at_prefix ribs.announced p slot) → shard_number roster p ≡ n) × (IsSome (at_prefix ribs.given p slot) → shard_number roster p ≡ n) × (has_pending ribs p ≡ true → shard_number roster p ≡ n)
  own-prefixes p slot = (own-announced roster edges connected n ribs here p slot, own-given roster edges connected n ribs here p slot, own-pending roster edges connected n ribs here p)

-- ---- somewhere in the shards

some_announced : (o : Option (Ribs RouteFields)) (p : IpPrefix) (slot : ℕ) → IsSome (announced_in o p slot) → (ribs : Ribs RouteFields) × (o ≡ Some ribs) × IsSome (at_prefix ribs.announced p slot)
some_announced None p slot some = absurd (false≢true some)
some_announced (Some ribs) p slot some = (ribs, refl, some)

some_given : (o : Option (Ribs RouteFields)) (p : IpPrefix) (slot : ℕ) → IsSome (given_in o p slot) → (ribs : Ribs RouteFields) × (o ≡ Some ribs) × IsSome (at_prefix ribs.given p slot)
some_given None p slot some = absurd (false≢true some)
some_given (Some ribs) p slot some = (ribs, refl, some)

some_waits : (o : Option (Ribs RouteFields)) (p : IpPrefix) → waits_in o p ≡ true → (ribs : Ribs RouteFields) × (o ≡ Some ribs) × (has_pending ribs p ≡ true)
some_waits None p some = absurd (false≢true some)
some_waits (Some ribs) p some = (ribs, refl, some)

module _ (roster : RosterOf) (edges : List Edge) (connected : set_of.FinSet nat_cmp) (shards : List (Ribs RouteFields)) (h : AreSound roster edges connected shards) (p : IpPrefix) (slot : ℕ) where
  pub announced-somewhere : IsSome (announced_route roster shards p slot) ↔ ((n : ℕ) × (ribs : Ribs RouteFields) × (slice_get shards n ≡ Some ribs) × IsSome (at_prefix ribs.announced p slot))
  announced-somewhere = (
    λ some. let found = some_announced (shard_of roster shards p) p slot some in (shard_number roster p, found.0, found.1, found.2),
    λ found.
        let own = (own-prefixes roster edges connected shards h found.0 found.1 found.2 p slot).0 found.3 in
        ap (λ o. is_some (announced_in o p slot)) (ap (slice_get shards) own ∙ found.2) ∙ found.3,
  )

  pub given-somewhere : IsSome (given_route roster shards p slot) ↔ ((n : ℕ) × (ribs : Ribs RouteFields) × (slice_get shards n ≡ Some ribs) × IsSome (at_prefix ribs.given p slot))
  given-somewhere = (
    λ some. let found = some_given (shard_of roster shards p) p slot some in (shard_number roster p, found.0, found.1, found.2),
    λ found.
        let own = (own-prefixes roster edges connected shards h found.0 found.1 found.2 p slot).1 found.3 in
        ap (λ o. is_some (given_in o p slot)) (ap (slice_get shards) own ∙ found.2) ∙ found.3,
  )

  pub pending-somewhere : (is_pending roster shards p ≡ true) ↔ ((n : ℕ) × (ribs : Ribs RouteFields) × (slice_get shards n ≡ Some ribs) × (has_pending ribs p ≡ true))
  pending-somewhere = (
    λ some. let found = some_waits (shard_of roster shards p) p some in (shard_number roster p, found.0, found.1, found.2),
    λ found.
        let own = (own-prefixes roster edges connected shards h found.0 found.1 found.2 p slot).2 found.3 in
        ap (λ o. waits_in o p) (ap (slice_get shards) own ∙ found.2) ∙ found.3,
  )
