-- The link state of a platform: the same packets come whole, and each shard learns of the same edges.
use Rattle.std.proofs.Common.{◌≡◌, ℕ, ◌+◌, Bool, true, false, not, ◌||◌, List, [], ◌∷◌, ◌++◌, length, min, Option, Some, None, refl, sym, ap, ◌∙◌, subst, arith, zero, suc}
use Rattle.std.specs.FinSet as set_of
use Rattle.std.specs.List.{concat}
use Rattle.std.specs.Int.{w64, to_be_bytes}
use Rattle.std.proofs.lemmas.Bool.{eq-eqb, false≢true}
use Rattle.rcp_base.specs.declared.kinds.Kind.{Kind}
use Rattle.rcp_base.specs.declared.kinds.Kind.TheVariants as kind
use Rattle.rcp_base.specs.declared.names.Edge.{Edge}
use Rattle.rcp_base.specs.declared.names.Member.{Member}
use Rattle.rcp_base.specs.IpPrefix.{IpPrefix}
use Rattle.rcp_base.specs.OspfPackets.{Front, whole, part, lost, front_of, packets_in, rest_in}
use Rattle.rcp_model.specs.LinkState.{LinkState, aged}
use Rattle.rcp_model.specs.LinkStateUpdates.{after_packets}
use Rattle.rcp_model.specs.Edges.{edges_of}
use Rattle.rcp_model.specs.RouteServer.{slot_cost, same_cost, cost_differs, after}
use Rattle.rcp_model.specs.RouteServer as lists
use Rattle.rcp_model.specs.ServerRibs.{Reader, Ribs, Links, ribs_of, ribs_after, prefixes_of, has_pending}
use Rattle.rcp_model.proofs.RibLemmas.{prefix_total, prefix_exact}
use Rattle.rib_laws.proofs.RibLookups.{same_test, has_of_prefixes}
use Rattle.lsdb.specs.Databases.{Holds}
use Rattle.feed_meaning.specs.LinkStream.{LinkStream, Reading, Lost, Framed, held_after}
use Rattle.feed_meaning.specs.Platform.{Platform, domain_of}
use Rattle.feed_meaning.specs.OutRecords.{MOST, lost_record}
use Rattle.feed_meaning.specs.LinkRecords.{with_link_state, stream_act, links_act}
use Rattle.feed_meaning.proofs.EventLemmas.{rising-event}
use Rattle.platform_laws.specs.Parts.{shards_after, AreParts}
use Rattle.platform_laws.specs.Platforms.{PlatformOf, IsSeen, capped_stream}
use Rattle.platform_laws.specs.Links.{LeadsByPackets, AreEdges, packets_by, IsLinkedBy, with_links, after_octets, output_of_octets, seen_after_links, output_of_links}
use Rattle.platform_laws.proofs.PartEvents.{parts-after}
use Rattle.platform_laws.proofs.TableLemmas.{once-event}

-- ---- places in the stream

least-twice : (place more : ℕ) → min (min place MOST + more) MOST ≡ min (place + more) MOST
least-twice place more = omega arith

-- what follows the packets, by what it begins with
same-stream : (packets : List (List ℕ)) (a b : ℕ) (rest : List ℕ) (front : Front) → min a MOST ≡ min b MOST
    → capped_stream (held_after packets a rest front).stream ≡ capped_stream (held_after packets b rest front).stream
same-stream packets a b rest (whole len) same = ap (Reading rest) same
same-stream packets a b rest part same = ap (Reading rest) same
same-stream packets a b rest lost same = refl

same-lost : (packets : List (List ℕ)) (a b : ℕ) (rest : List ℕ) (front : Front) → min a MOST ≡ min b MOST
    → lost_record (held_after packets a rest front).lost_at ≡ lost_record (held_after packets b rest front).lost_at
same-lost packets a b rest (whole len) same = refl
same-lost packets a b rest part same = refl
same-lost packets a b rest lost same = ap (λ n. record { kind = 81; connection = 0; body = to_be_bytes w64 n } ∷ []) same

found-packets : (packets : List (List ℕ)) (place : ℕ) (rest : List ℕ) (front : Front) → (held_after packets place rest front).packets ≡ packets
found-packets packets place rest (whole len) = refl
found-packets packets place rest part = refl
found-packets packets place rest lost = refl

-- ---- the edges

seen-with_links : (platform : Platform) (seen : PlatformOf) (state : LinkState) (edges : List Edge) (new : LinkState) → IsSeen platform seen → Holds state new → edges ≡ edges_of new platform.roster.links
    → IsSeen (with_link_state new platform) (with_links state edges seen)
seen-with_links platform seen state edges new h holds is = record {
  roster = h.roster;
  sessions = h.sessions;
  time = h.time;
  stream = h.stream;
  link_state = holds;
  shards = subst (AreParts platform.roster (ribs_of (with_link_state new platform).server)) (λ i. shards_after (sym h.roster i) (Links (sym is i)) seen.shards)
      (parts-after platform.roster (lists.Links (edges_of new platform.roster.links)) platform.server seen.shards h.shards tt);
  updates = h.updates;
  rising = rising-event (domain_of platform.roster) (lists.Links (edges_of new platform.roster.links)) platform.server h.rising;
  once = once-event (domain_of platform.roster) (lists.Links (edges_of new platform.roster.links)) platform.server h.once;
  octets = h.octets;
}

seen-at_stream : (platform : Platform) (seen : PlatformOf) (a b : LinkStream) → IsSeen platform seen → b ≡ capped_stream a → IsSeen (record platform { stream = a }) (record seen { stream = b })
seen-at_stream platform seen a b h is = record {
  roster = h.roster;
  sessions = h.sessions;
  time = h.time;
  stream = is;
  link_state = h.link_state;
  shards = h.shards;
  updates = h.updates;
  rising = h.rising;
  once = h.once;
  octets = h.octets;
}

-- ---- the stage

module _ (platform : Platform) (seen : PlatformOf) (h : IsSeen platform seen) (state : LinkState) (edges : List Edge) where
  edges-are : (new : LinkState) → AreEdges seen.roster state edges → Holds state new → edges ≡ edges_of new platform.roster.links
  edges-are new are holds = are new holds ∙ ap (λ r. edges_of new r.links) h.roster

  seen-octets : (stream : LinkStream) (body : List ℕ) → LeadsByPackets seen.roster seen.time (packets_by (capped_stream stream) body) seen.link_state state → AreEdges seen.roster state edges
      → IsSeen (stream_act stream body platform).after (after_octets (capped_stream stream) body state edges seen)
  seen-octets Lost body leads are = h
  seen-octets (Reading held place) body leads are =
      let octets = held ++ body in
      let at = place + length (concat (packets_in octets)) in
      let capped_at = min place MOST + length (concat (packets_in octets)) in
      let found : Framed = held_after (packets_in octets) at (rest_in octets) (front_of (rest_in octets)) in
      let same : capped_stream (held_after (packets_in octets) capped_at (rest_in octets) (front_of (rest_in octets))).stream ≡ capped_stream found.stream =
      same-stream (packets_in octets) capped_at at (rest_in octets) (front_of (rest_in octets)) (least-twice place (length (concat (packets_in octets)))) in
      let holds : Holds state (after_packets platform.roster.area platform.moment found.packets platform.link_state) =
      subst (λ (l : LinkState). Holds state l)
      (λ i. after_packets (h.roster i).area (h.time i) (sym (found-packets (packets_in octets) at (rest_in octets) (front_of (rest_in octets))) i) platform.link_state)
      (leads platform.link_state h.link_state) in
      seen-with_links (record platform { stream = found.stream })
      (record seen { stream = capped_stream (held_after (packets_in octets) capped_at (rest_in octets) (front_of (rest_in octets))).stream })
      state edges (after_packets platform.roster.area platform.moment found.packets platform.link_state)
      (seen-at_stream platform seen found.stream (capped_stream (held_after (packets_in octets) capped_at (rest_in octets) (front_of (rest_in octets))).stream) h same)
      holds
      (edges-are (after_packets platform.roster.area platform.moment found.packets platform.link_state) are holds)

  pub seen-links : (body : List ℕ) (k : Kind) → IsLinkedBy seen body k state edges → IsSeen (links_act platform body k).after (seen_after_links seen body k state edges)
  seen-links body kind.Links by =
      subst (λ s. IsSeen (stream_act platform.stream body platform).after (after_octets s body state edges seen)) (sym h.stream)
      (seen-octets platform.stream body (subst (λ s. LeadsByPackets seen.roster seen.time (packets_by s body) seen.link_state state) h.stream by.0) by.1)
  seen-links body kind.Time by =
      let holds : Holds state (aged platform.moment platform.link_state) = subst (λ m. Holds state (aged m platform.link_state)) h.time (by.0 platform.link_state h.link_state) in
      seen-with_links platform seen state edges (aged platform.moment platform.link_state) h holds (edges-are (aged platform.moment platform.link_state) by.1 holds)
  seen-links body kind.Roster by = h
  seen-links body kind.Ready by = h
  seen-links body kind.Raw by = h
  seen-links body kind.Octets by = h
  seen-links body kind.Closed by = h
  seen-links body kind.Slice by = h
  seen-links body kind.Drain by = h
  seen-links body kind.Finish by = h

octets-out : (stream : LinkStream) (body : List ℕ) (platform : Platform) → (stream_act stream body platform).out ≡ output_of_octets (capped_stream stream) body
octets-out Lost body platform = refl
octets-out (Reading held place) body platform =
    let octets = held ++ body in
    same-lost (packets_in octets) (place + length (concat (packets_in octets))) (min place MOST + length (concat (packets_in octets))) (rest_in octets) (front_of (rest_in octets))
    (sym (least-twice place (length (concat (packets_in octets)))))

pub links-out : (platform : Platform) (seen : PlatformOf) (body : List ℕ) (k : Kind) → IsSeen platform seen → (links_act platform body k).out ≡ output_of_links seen body k
links-out platform seen body kind.Links h = octets-out platform.stream body platform ∙ ap (λ s. output_of_octets s body) (sym h.stream)
links-out platform seen body kind.Time h = refl
links-out platform seen body kind.Roster h = refl
links-out platform seen body kind.Ready h = refl
links-out platform seen body kind.Raw h = refl
links-out platform seen body kind.Octets h = refl
links-out platform seen body kind.Closed h = refl
links-out platform seen body kind.Slice h = refl
links-out platform seen body kind.Drain h = refl
links-out platform seen body kind.Finish h = refl

-- ---- edges that stay

cost-itself : (o : Option ℕ) → same_cost o o ≡ true
cost-itself None = refl
cost-itself (Some n) = eq-eqb n n refl

no_difference : (edges : List Edge) (members : List Member) (e count : ℕ) → cost_differs edges edges members e count ≡ false
no_difference edges members e zero = refl
no_difference edges members e (suc q) = λ i. not (cost-itself (slot_cost edges members q e) i) || no_difference edges members e q i

or-nothing : (b c : Bool) → c ≡ false → (b || c) ≡ b
or-nothing true c none = refl
or-nothing false c none = none

-- which slots have another cost: none
abbrev moves : {V : Type 0} → Reader V → Ribs V → ℕ → Bool
moves reader ribs e = cost_differs ribs.edges ribs.edges reader.members e (length reader.members)

none_moved : {V : Type 0} (reader : Reader V) (ribs : Ribs V) (p : IpPrefix) → set_of.contains (prefixes_of (moves reader ribs) ribs.announced) p ≡ false
none_moved reader ribs p = same_test (set_of.contains (prefixes_of (moves reader ribs) ribs.announced) p) false
    (λ inside.
    let has = has_of_prefixes (moves reader ribs) ribs.announced p inside in
    sym (no_difference ribs.edges reader.members has.slot (length reader.members)) ∙ has.passes)
    (λ no. absurd (false≢true no))

-- edges that are as before make nothing pending
pub same-edges : {V : Type 0} (reader : Reader V) (ribs : Ribs V) → ribs_after reader (Links ribs.edges) ribs ≡ ribs
unfolding ribs_after
same-edges reader ribs =
    let same : set_of.union ribs.pending (prefixes_of (moves reader ribs) ribs.announced) ≡ ribs.pending =
    set_of.same_set prefix_total prefix_exact (set_of.union ribs.pending (prefixes_of (moves reader ribs) ribs.announced)) ribs.pending (λ p.
    set_of.contains-union prefix_total ribs.pending (prefixes_of (moves reader ribs) ribs.announced) p
    ∙ or-nothing (has_pending ribs p) (set_of.contains (prefixes_of (moves reader ribs) ribs.announced) p) (none_moved reader ribs p)) in
    λ i. record ribs { pending = same i }
