-- What is asked of a platform, of which one of the definitions is seen.
use Rattle.std.proofs.Common.{◌≡◌, ℕ, ◌≤◌, List, [], ◌∷◌, length, Option, Some, None, refl, ap, ◌∙◌, arith}
use Rattle.rcp_base.specs.IpPrefix.{IpPrefix}
use Rattle.rcp_base.specs.Roster.{RosterOf}
use Rattle.rcp_model.specs.Routes.{RouteFields}
use Rattle.rcp_model.specs.Updates.{Table}
use Rattle.rcp_model.specs.RouteServer.{announced_by, table_of}
use Rattle.rcp_model.specs.RouteServer as server
use Rattle.rcp_model.specs.ServerRibs.{Ribs, at_prefix, cell_in, ribs_of}
use Rattle.rib_laws.proofs.ListLookups.{up_in_lists, announced_in_lists, given_in_tables, pending_in_lists}
use Rattle.feed_meaning.specs.Platform.{Platform, domain_of}
use Rattle.feed_meaning.specs.Work.{cell_of}
use Rattle.platform_laws.specs.Asked.{is_connected, is_pending, announced_route, given_route, octets_of}
use Rattle.platform_laws.specs.Parts.{AreReadFrom}
use Rattle.platform_laws.specs.Platforms.{PlatformOf, IsSeen}
use Rattle.platform_laws.proofs.ShardAnswers.{connected-seen, pending-seen, announced-read, given-read, octets-back}
use Rattle.rcs_shards.specs.Servers.{edges_in}
use Rattle.hop_walk.specs.Hops.{network_at}
use Rattle.replica_law.specs.Replicas.{replica_of}
use Rattle.rcp_run.specs.Reports.{given_on, network_on, replica_on}
use Rattle.rcp_run.specs.Making.{seen_network, seen_replica}

edges_read : (roster : RosterOf) (octets : Ribs (List ℕ)) (shards : List (Ribs RouteFields)) → AreReadFrom roster octets 0 shards → 1 ≤ length shards → edges_in shards ≡ octets.edges
edges_read roster octets [] read some = absurd (omega (arith, some))
edges_read roster octets (ribs ∷ shards) read some = read.0.edges

same_cell : (table : Option Table) (p : IpPrefix) → cell_in table p ≡ cell_of table p
same_cell None p = refl
same_cell (Some table) p = refl

module _ (platform : Platform) (seen : PlatformOf) (h : IsSeen platform seen) where
  edges-asked : edges_in seen.shards ≡ platform.server.edges
  edges-asked = edges_read platform.roster (ribs_of platform.server) seen.shards h.shards.read (omega (arith, h.shards.count, h.shards.some))

  pub connected-asked : (slot : ℕ) → is_connected seen.shards slot ≡ server.is_connected platform.server slot
  connected-asked slot = connected-seen platform.roster (ribs_of platform.server) seen.shards h.shards slot ∙ up_in_lists platform.server slot

  announced-asked : (p : IpPrefix) (slot : ℕ) → octets_of (announced_route seen.roster seen.shards p slot) ≡ announced_by platform.server.announcements slot p
  announced-asked p slot =
      ap (λ (r : RosterOf). octets_of (announced_route r seen.shards p slot)) h.roster
      ∙ ap octets_of (announced-read platform.roster (ribs_of platform.server) seen.shards h.shards p slot)
      ∙ octets-back platform.roster (at_prefix (ribs_of platform.server).announced p slot) (h.shards.canonical.announced p slot)
      ∙ announced_in_lists platform.server p slot

  pub given-asked : (p : IpPrefix) (slot : ℕ) → octets_of (given_route seen.roster seen.shards p slot) ≡ given_on platform p slot
  given-asked p slot =
      ap (λ (r : RosterOf). octets_of (given_route r seen.shards p slot)) h.roster
      ∙ ap octets_of (given-read platform.roster (ribs_of platform.server) seen.shards h.shards p slot)
      ∙ octets-back platform.roster (at_prefix (ribs_of platform.server).given p slot) (h.shards.canonical.given p slot)
      ∙ given_in_tables platform.server.tables (p, slot)
      ∙ same_cell (table_of platform.server slot) p

  pending-asked : (p : IpPrefix) → is_pending seen.roster seen.shards p ≡ server.is_pending platform.server p
  pending-asked p =
      ap (λ (r : RosterOf). is_pending r seen.shards p) h.roster
      ∙ pending-seen platform.roster (ribs_of platform.server) seen.shards h.shards p ∙ pending_in_lists platform.server p

  pub network-asked : (p : IpPrefix) → seen_network seen p ≡ network_on platform p
  network-asked p = λ i.
      network_at (domain_of (h.roster i)) (edges-asked i) (λ slot. connected-asked slot i) (λ q slot. announced-asked q slot i) (λ q slot. given-asked q slot i) (λ q. pending-asked q i) p

  pub replica-asked : seen_replica seen ≡ replica_on platform
  replica-asked = λ i.
      replica_of (h.roster i).as_number (h.roster i).members (edges-asked i) (λ slot. connected-asked slot i) (λ q slot. announced-asked q slot i) (λ q slot. given-asked q slot i)
      (λ q. pending-asked q i)
