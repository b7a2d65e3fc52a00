-- Link state keeps what is kept: new edges change no table, and nothing is sent.
use Rattle.std.proofs.Common.{◌≡◌, ℕ, List, [], ◌++◌, Option, Some, None, refl}
use Rattle.rcp_base.specs.declared.kinds.Kind.{Kind}
use Rattle.rcp_base.specs.declared.kinds.Kind.TheVariants as kind
use Rattle.rcp_base.specs.Feed.{OutRecord}
use Rattle.rcp_model.specs.LinkState.{LinkState}
use Rattle.rcp_model.specs.Edges.{edges_of}
use Rattle.rcp_model.specs.Sessions.{slot_in}
use Rattle.rcp_model.specs.RouteServer.{Links, after}
use Rattle.feed_meaning.specs.LinkStream.{LinkStream, Reading, Lost, Framed, framed}
use Rattle.feed_meaning.specs.Platform.{Platform, domain_of}
use Rattle.feed_meaning.specs.OutRecords.{lost_record, sent_to}
use Rattle.feed_meaning.specs.LinkRecords.{with_link_state, packets_act, stream_act, links_act}
use Rattle.rcp_model.proofs.LinkEventLemmas.{settled-links}
use Rattle.feed_meaning.proofs.EventLemmas.{rising-event}
use Rattle.feed_meaning.proofs.TurnLemmas.{Tells, Kept, kept-silent}

-- the edges are of no account for what a table has
tells-linked : (platform : Platform) (state : LinkState) (octets : List ℕ) (found : Option ℕ) → Tells octets platform.server found → Tells octets (with_link_state state platform).server found
unfolding after
tells-linked platform state octets None tells = tells
tells-linked platform state octets (Some slot) tells = tells

kept-linked : (platform : Platform) (outs : List OutRecord) (last : ℕ) (state : LinkState) → Kept platform outs last → Kept (with_link_state state platform) outs last
kept-linked platform outs last state h = record {
  settled = settled-links (domain_of platform.roster) (edges_of state platform.roster.links) platform.server h.settled;
  rising = rising-event (domain_of platform.roster) (Links (edges_of state platform.roster.links)) platform.server h.rising;
  distinct = h.distinct;
  seats = h.seats;
  are_open = h.are_open;
  octets = h.octets;
  told = λ n s is. tells-linked platform state (sent_to n outs) (slot_in s.phase) (h.told n s is);
  absent = h.absent;
  unsent = h.unsent;
}

-- so is the stream
kept-read : (platform : Platform) (outs : List OutRecord) (last : ℕ) (stream : LinkStream) → Kept platform outs last → Kept (record platform { stream = stream }) outs last
kept-read platform outs last stream h = record {
  settled = h.settled;
  rising = h.rising;
  distinct = h.distinct;
  seats = h.seats;
  are_open = h.are_open;
  octets = h.octets;
  told = h.told;
  absent = h.absent;
  unsent = h.unsent;
}

lost-silent : (place : Option ℕ) (n : ℕ) → sent_to n (lost_record place) ≡ []
lost-silent None n = refl
lost-silent (Some place) n = refl

module _ (platform : Platform) (outs : List OutRecord) (last : ℕ) (h : Kept platform outs last) where
  -- where nothing is done
  kept-still : Kept platform (outs ++ []) last
  kept-still = kept-silent platform outs [] last (λ n. refl) h

  kept-packets : (found : Framed) → Kept (packets_act found platform).after (outs ++ (packets_act found platform).out) last
  kept-packets found =
      kept-silent (packets_act found platform).after outs (lost_record found.lost_at) last (lost-silent found.lost_at)
      (kept-linked (record platform { stream = found.stream }) outs last _ (kept-read platform outs last found.stream h))

  kept-stream : (stream : LinkStream) (octets : List ℕ) → Kept (stream_act stream octets platform).after (outs ++ (stream_act stream octets platform).out) last
  kept-stream (Reading held place) octets = kept-packets (framed place (held ++ octets))
  kept-stream Lost octets = kept-still

  pub links-keep : (body : List ℕ) (k : Kind) → Kept (links_act platform body k).after (outs ++ (links_act platform body k).out) last
  links-keep body kind.Links = kept-stream platform.stream body
  links-keep body kind.Time = kept-silent _ outs [] last (λ n. refl) (kept-linked platform outs last _ h)
  links-keep body kind.Roster = kept-still
  links-keep body kind.Ready = kept-still
  links-keep body kind.Raw = kept-still
  links-keep body kind.Octets = kept-still
  links-keep body kind.Closed = kept-still
  links-keep body kind.Slice = kept-still
  links-keep body kind.Drain = kept-still
  links-keep body kind.Finish = kept-still

-- ---- the roster stays

stream-roster : (stream : LinkStream) (octets : List ℕ) (platform : Platform) → (stream_act stream octets platform).after.roster ≡ platform.roster
stream-roster (Reading held place) octets platform = refl
stream-roster Lost octets platform = refl

pub links-roster : (platform : Platform) (body : List ℕ) (k : Kind) → (links_act platform body k).after.roster ≡ platform.roster
links-roster platform body kind.Links = stream-roster platform.stream body platform
links-roster platform body kind.Time = refl
links-roster platform body kind.Roster = refl
links-roster platform body kind.Ready = refl
links-roster platform body kind.Raw = refl
links-roster platform body kind.Octets = refl
links-roster platform body kind.Closed = refl
links-roster platform body kind.Slice = refl
links-roster platform body kind.Drain = refl
links-roster platform body kind.Finish = refl
