-- The cells that change with work, and the UPDATEs for them.
use Rattle.std.proofs.Common.{◌≡◌, ℕ, Bool, true, false, cond, not, ◌&&◌, List, [], ◌∷◌, map, Option, Some, None, option_map, refl, sym, ap, ◌∙◌}
use Rattle.std.specs.Prelude.{filter}
use Rattle.std.specs.List.{flat_map}
use Rattle.std.proofs.lemmas.Bool.{or_parts}
use Rattle.rcp_base.specs.IpPrefix.{IpPrefix}
use Rattle.rcp_base.specs.Maps.{get_at, set_at, same_prefix, is_among}
use Rattle.rcp_base.specs.Roster.{RosterOf}
use Rattle.rcp_base.proofs.MapLemmas.{prefix_test}
use Rattle.rcp_model.specs.Rising.{IsRising}
use Rattle.rcp_model.specs.Routes.{RouteFields}
use Rattle.rcp_model.specs.Sessions.{slot_in}
use Rattle.rcp_model.specs.Updates.{Table}
use Rattle.rcp_model.specs.RouteServer.{Domain, Server, Work, table_of, same_octets, offer, announced_at, after, after_all}
use Rattle.rcp_model.specs.ServerRibs.{Ribs, at_prefix, cell_in, same_values, same_route, ribs_of}
use Rattle.rcp_model.specs.Packing.{packed}
use Rattle.rcp_model.proofs.RisingLemmas.{rising-filter}
use Rattle.rib_laws.proofs.ListLookups.{given_in_tables, get_at-set_at, worked_at}
use Rattle.rib_laws.proofs.PendingLemmas.{octets_exact}
use Rattle.feed_meaning.specs.Platform.{Connections}
use Rattle.feed_meaning.specs.OutRecords.{messages_to}
use Rattle.feed_meaning.specs.Work.{cell_of, changed_cells, slot_updates, updates_sent, work_events}
use Rattle.platform_laws.specs.Parts.{AreParts}
use Rattle.platform_laws.specs.Asked.{given_route, octets_of}
use Rattle.platform_laws.specs.Work.{is_changed, changed_prefixes, cells_at, updates_to, updates_to_all, AreChanged}
use Rattle.platform_laws.proofs.RisingLists.{rising-same, among-filter}
use Rattle.platform_laws.proofs.ShardAnswers.{given-read, octets-back, same-back}

-- ---- cells of lists

abbrev differs : Option Table → Option Table → IpPrefix → Bool
differs before now p = not (same_octets (cell_of before p) (cell_of now p))

changed-listed : (ps : List IpPrefix) (before now : Option Table) → changed_cells ps before now ≡ map (λ p. (p, cell_of now p)) (filter (differs before now) ps)
changed-listed [] before now = refl
changed-listed (p ∷ ps) before now = at_test (same_octets (cell_of before p) (cell_of now p)) (changed-listed ps before now) where
  at_test : (b : Bool) → changed_cells ps before now ≡ map (λ q. (q, cell_of now q)) (filter (differs before now) ps)
      → cond b (changed_cells ps before now) ((p, cell_of now p) ∷ changed_cells ps before now) ≡ map (λ q. (q, cell_of now q)) (cond (not b) (p ∷ filter (differs before now) ps) (filter (differs before now) ps))
  at_test true rest = rest
  at_test false rest = ap (λ l. (p, cell_of now p) ∷ l) rest

pub same-cell : (o : Option Table) (p : IpPrefix) → cell_in o p ≡ cell_of o p
same-cell None p = refl
same-cell (Some table) p = refl

-- what isn't worked stays
stays-at : (domain : Domain) (server : Server) (p q : IpPrefix) (slot : ℕ) → same_prefix q p ≡ false → cell_of (table_of (after domain (Work p) server) slot) q ≡ cell_of (table_of server slot) q
unfolding after
stays-at domain server p q slot other =
    ap (λ o. cell_of o q) (worked_at domain server.announcements server.edges p slot server.tables) ∙ at_table (table_of server slot) where
      at_table : (o : Option Table) → cell_of (option_map (set_at same_prefix p (offer domain (announced_at server.announcements p) server.edges slot)) o) q ≡ cell_of o q
      at_table None = refl
      at_table (Some table) =
          get_at-set_at same_prefix prefix_test p (offer domain (announced_at server.announcements p) server.edges slot) table q
          ∙ ap (λ b. cond b (offer domain (announced_at server.announcements p) server.edges slot) (get_at same_prefix q table)) other

cell-stays : (domain : Domain) (ps : List IpPrefix) (server : Server) (q : IpPrefix) (slot : ℕ) → is_among ps q ≡ false
    → cell_of (table_of (after_all domain (work_events ps) server) slot) q ≡ cell_of (table_of server slot) q
unfolding after_all
cell-stays domain [] server q slot other = refl
cell-stays domain (p ∷ ps) server q slot other =
    let parts = or_parts (same_prefix q p) (is_among ps q) other in
    cell-stays domain ps (after domain (Work p) server) q slot parts.1 ∙ stays-at domain server p q slot parts.0

octets-itself : (o : Option (List ℕ)) → same_octets o o ≡ true
octets-itself None = refl
octets-itself (Some octets) = octets_exact.itself octets

-- ---- cells of shards

module _ (roster : RosterOf) (server now : Server) (shards worked : List (Ribs RouteFields)) (h : AreParts roster (ribs_of server) shards) (g : AreParts roster (ribs_of now) worked) where
  given-octets : (slot : ℕ) (p : IpPrefix) → octets_of (given_route roster worked p slot) ≡ cell_of (table_of now slot) p
  given-octets slot p =
      ap octets_of (given-read roster (ribs_of now) worked g p slot)
      ∙ octets-back roster (at_prefix (ribs_of now).given p slot) (g.canonical.given p slot)
      ∙ given_in_tables now.tables (p, slot) ∙ same-cell (table_of now slot) p

  pub changed-is : (slot : ℕ) (p : IpPrefix) → is_changed roster shards worked slot p ≡ differs (table_of server slot) (table_of now slot) p
  changed-is slot p = ap not (
      (λ i. same_values same_route (given-read roster (ribs_of server) shards h p slot i) (given-read roster (ribs_of now) worked g p slot i))
      ∙ same-back roster (at_prefix (ribs_of server).given p slot) (at_prefix (ribs_of now).given p slot) (h.canonical.given p slot) (g.canonical.given p slot)
      ∙ (λ i. same_octets ((given_in_tables server.tables (p, slot) ∙ same-cell (table_of server slot) p) i) ((given_in_tables now.tables (p, slot) ∙ same-cell (table_of now slot) p) i)))

  slot-cells : (ps : List IpPrefix) (slot : ℕ) → changed_cells ps (table_of server slot) (table_of now slot) ≡ cells_at roster worked slot (changed_prefixes roster ps shards worked slot)
  slot-cells ps slot =
      changed-listed ps (table_of server slot) (table_of now slot)
      ∙ (λ i. map (λ p. (p, sym (given-octets slot p) i)) (filter (λ p. sym (changed-is slot p) i) ps))

  slot-sent : (ps : List IpPrefix) (slot : Option ℕ) → slot_updates ps server now slot ≡ updates_to roster ps shards worked slot
  slot-sent ps None = refl
  slot-sent ps (Some slot) = ap packed (slot-cells ps slot)

  pub all-sent : (ps : List IpPrefix) (connections : Connections) → updates_sent ps server now connections ≡ updates_to_all roster ps shards worked connections
  all-sent ps connections = λ i. flat_map (λ entry. messages_to entry.0 (slot-sent ps (slot_in entry.1.phase) i)) connections

-- those that changed are known by being rising and exact
pub changed-are : (roster : RosterOf) (domain : Domain) (server : Server) (shards worked : List (Ribs RouteFields)) (ps : List IpPrefix) → AreParts roster (ribs_of server) shards
    → AreParts roster (ribs_of (after_all domain (work_events ps) server)) worked → IsRising ps → (slot : ℕ) (qs : List IpPrefix) → AreChanged roster shards worked slot qs
    → changed_prefixes roster ps shards worked slot ≡ qs
changed-are roster domain server shards worked ps h g rising slot qs are =
    rising-same (changed_prefixes roster ps shards worked slot) qs (rising-filter (is_changed roster shards worked slot) ps rising) are.rising (λ p.
    among-filter (is_changed roster shards worked slot) ps p
    ∙ at_test (is_among ps p) (is_changed roster shards worked slot p) (unworked p)
    ∙ sym (are.exact p)) where
      at_test : (b c : Bool) → (b ≡ false → c ≡ false) → (b && c) ≡ c
      at_test true c h = refl
      at_test false c h = sym (h refl)

      unworked : (p : IpPrefix) → is_among ps p ≡ false → is_changed roster shards worked slot p ≡ false
      unworked p other =
          changed-is roster server (after_all domain (work_events ps) server) shards worked h g slot p
          ∙ ap (λ o. not (same_octets (cell_of (table_of server slot) p) o)) (cell-stays domain ps server p slot other)
          ∙ ap not (octets-itself (cell_of (table_of server slot) p))
