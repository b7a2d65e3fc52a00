-- Work on pending prefixes keeps what is kept: what each connection is sent replays to the table of its slot.
use Rattle.std.proofs.Common.{◌≡◌, ℕ, true, cond, eqb, List, [], ◌∷◌, ◌++◌, Option, Some, None, refl, sym, ◌∙◌, inl, inr, append_assoc}
use Rattle.std.specs.List.{concat, AllByRecursion}
use Rattle.std.proofs.lemmas.Bool.{cases_Bool, eqb-true, or_left, or_right}
use Rattle.std.proofs.lemmas.List.{append-nil}
use Rattle.rcp_base.specs.IpPrefix.{IpPrefix, IsPrefix}
use Rattle.rcp_base.specs.declared.kinds.Kind.{Kind}
use Rattle.rcp_base.specs.declared.kinds.Kind.TheVariants as kind
use Rattle.rcp_base.specs.Feed.{OutRecord}
use Rattle.rcp_base.specs.Maps.{get_at, same_prefix, is_among}
use Rattle.rcp_model.specs.Packing.{packed}
use Rattle.rcp_model.specs.Rising.{IsRising}
use Rattle.rcp_model.specs.Updates.{Table}
use Rattle.rcp_model.specs.LinkState.{same_number}
use Rattle.rcp_model.specs.RouteServer.{Server, announced_at, offer}
use Rattle.rcp_model.specs.Sessions.{SessionState, slot_in}
use Rattle.feed_meaning.specs.Platform.{Connections, Platform, domain_of}
use Rattle.feed_meaning.specs.OutRecords.{messages_to, summary, sent_to}
use Rattle.feed_meaning.specs.Work.{pending_in, shard_in, count_in, slice, changed_cells, slot_updates, updates_sent, work_events, worked_server, work_updates, work_on, with_summary, work_act}
use Rattle.rcp_base.proofs.MapLemmas.{same_prefix-itself}
use Rattle.rcp_model.proofs.PackingLemmas.{packed-carries}
use Rattle.rcp_model.proofs.OfferLemmas.{filter-keeps, offer-fits}
use Rattle.rcp_model.proofs.RisingLemmas.{rising-filter, rising-take, take-keeps}
use Rattle.rcp_model.proofs.ServerLemmas.{number-other}
use Rattle.feed_meaning.proofs.CellLemmas.{FitsAt, are-cells, cells-give}
use Rattle.feed_meaning.proofs.RunLemmas.{Replays, Replays-carried, Worked, worked-all}
use Rattle.feed_meaning.proofs.EventLemmas.{settled-all, rising-all, work-good}
use Rattle.feed_meaning.proofs.TurnLemmas.{sent_to-append, sent_to-messages, sent_to-others, Distinct, Tells, Kept, kept-silent}

-- ---- what each connection is sent

sent_to-absent : (n : ℕ) (ps : List IpPrefix) (before now : Server) (es : Connections) → get_at same_number n es ≡ None → sent_to n (updates_sent ps before now es) ≡ []
sent_to-absent n ps before now [] none = refl
sent_to-absent n ps before now (e ∷ es) none =
    elim (cases_Bool (eqb n e.0)) [
      | inl t ↦ let no : Some e.1 ≡ None = rw t at none in absurd cc
      | inr f ↦
          sent_to-append n (messages_to e.0 (slot_updates ps before now (slot_in e.1.phase))) (updates_sent ps before now es)
          ∙ rw (sent_to-others n e.0 (slot_updates ps before now (slot_in e.1.phase)) (number-other n e.0 f)) (sent_to-absent n ps before now es (rw f at none))
    ]

sent_to-updates : (n : ℕ) (s : SessionState) (ps : List IpPrefix) (before now : Server) (es : Connections) → Distinct es → get_at same_number n es ≡ Some s
    → sent_to n (updates_sent ps before now es) ≡ concat (slot_updates ps before now (slot_in s.phase))
sent_to-updates n s ps before now [] d is = absurd cc
sent_to-updates n s ps before now (e ∷ es) d is =
    sent_to-append n (messages_to e.0 (slot_updates ps before now (slot_in e.1.phase))) (updates_sent ps before now es)
    ∙ elim (cases_Bool (eqb n e.0)) [
      | inl t ↦
          let n_is : n ≡ e.0 = eqb-true n e.0 t in
          let same : Some e.1 ≡ Some s = rw t at is in
          let s_is : e.1 ≡ s = cc in
          let none : get_at same_number n es ≡ None = rw n_is d.0 in
          rw (← n_is, s_is, sent_to-messages n (slot_updates ps before now (slot_in s.phase)), sent_to-absent n ps before now es none) (append-nil _)
      | inr f ↦
          rw (sent_to-others n e.0 (slot_updates ps before now (slot_in e.1.phase)) (number-other n e.0 f)) (sent_to-updates n s ps before now es d.1 (rw f at is))
    ]

-- ---- each prefix of a list is among them

among-more : (p : IpPrefix) (ps qs : List IpPrefix) → AllByRecursion (λ q. is_among ps q ≡ true) qs → AllByRecursion (λ q. is_among (p ∷ ps) q ≡ true) qs
among-more p ps [] all = tt
among-more p ps (q ∷ qs) all = (or_right (same_prefix q p) (is_among ps q) all.0, among-more p ps qs all.1)

pub among-itself : (ps : List IpPrefix) → AllByRecursion (λ q. is_among ps q ≡ true) ps
among-itself [] = tt
among-itself (p ∷ ps) = (or_left (same_prefix p p) (is_among ps p) (same_prefix-itself p), among-more p ps ps (among-itself ps))

-- ---- prefixes are worked

module _ (platform : Platform) (outs : List OutRecord) (last : ℕ) (ps : List IpPrefix) (rising : IsRising ps) (forms : AllByRecursion IsPrefix ps) (h : Kept platform outs last) where
  now : Server
  now = worked_server ps platform

  work : Worked (domain_of platform.roster) ps platform.server now
  unfolding now
  work = worked-all (domain_of platform.roster) ps platform.server

  -- what a table has afterwards: the offer at these prefixes
  abbrev Gives : ℕ → Table → Table → Type 0
  Gives slot table new = (q : IpPrefix) → get_at same_prefix q new
      ≡ cond (is_among ps q) (offer (domain_of platform.roster) (announced_at platform.server.announcements q) platform.server.edges slot) (get_at same_prefix q table)

  -- it leaves room for its prefix
  fits : (slot : ℕ) (table new : Table) (qs : List IpPrefix) → Gives slot table new → AllByRecursion (λ q. is_among ps q ≡ true) qs → AllByRecursion IsPrefix qs
      → AllByRecursion (FitsAt (Some new)) qs
  fits slot table new [] gives among forms = tt
  fits slot table new (q ∷ qs) gives among forms = (
    (
      forms.0,
      λ octets is.
          let offered : offer (domain_of platform.roster) (announced_at platform.server.announcements q) platform.server.edges slot ≡ Some octets = rw among.0 at (sym (gives q) ∙ is) in
          offer-fits (domain_of platform.roster) (announced_at platform.server.announcements q) platform.server.edges slot octets (λ e l l_is. h.settled.canonical.each e q l l_is) offered,
    ),
    fits slot table new qs gives among.1 forms.1,
  )

  -- the octets so far and the UPDATEs of the changed cells replay to the new table
  replays_on : (octets : List ℕ) (slot : ℕ) (table new : Table) → Replays octets table → Gives slot table new
      → Replays (octets ++ concat (packed (changed_cells ps (Some table) (Some new)))) new
  replays_on octets slot table new before gives =
      let cells = changed_cells ps (Some table) (Some new) in
      let are = are-cells ps (Some table) (Some new) rising (fits slot table new ps gives (among-itself ps) forms) in
      Replays-carried octets (packed cells) cells table new before (packed-carries cells are)
      (λ q. cells-give ps (Some table) (Some new) q rising (
      elim (cases_Bool (is_among ps q)) [
        | inl e ↦ inl e
        | inr e ↦ inr (sym (gives q ∙ rw e refl))
      ]))

  tells-worked : (octets : List ℕ) (found : Option ℕ) → Tells octets platform.server found
      → Tells (octets ++ concat (slot_updates ps platform.server now found)) now found
  tells-worked octets None tells = rw (append-nil octets) tells
  tells-worked octets (Some slot) tells =
      let new = work.tables slot tells.0 tells.1 in (
        new.0,
        new.1,
        rw (tells.1, new.1) (replays_on octets slot tells.0 new.0 tells.2 new.2),
      )

  pub kept-work : Kept (work_on ps platform).after (outs ++ work_updates ps platform) last
  unfolding now
  kept-work = record {
    settled = settled-all (domain_of platform.roster) (work_events ps) platform.server (work-good ps) h.settled;
    rising = rising-all (domain_of platform.roster) (work_events ps) platform.server h.rising;
    distinct = h.distinct;
    seats = h.seats;
    are_open = h.are_open;
    octets = h.octets;
    told = λ n s is.
        rw (sent_to-append n outs (work_updates ps platform), sent_to-updates n s ps platform.server (worked_server ps platform) platform.connections h.distinct is)
        (tells-worked (sent_to n outs) (slot_in s.phase) (h.told n s is));
    absent = h.absent;
    unsent = λ n above.
        sent_to-append n outs (work_updates ps platform)
        ∙ rw (sent_to-absent n ps platform.server (worked_server ps platform) platform.connections (h.absent n above), h.unsent n above) refl;
  }

-- ---- the work of a record

module _ (platform : Platform) (outs : List OutRecord) (last : ℕ) (body : List ℕ) (h : Kept platform outs last) where
  kept-slice : Kept (work_on (slice platform body) platform).after (outs ++ work_updates (slice platform body) platform) last
  kept-slice =
      let pending = pending_in platform.roster.shards (shard_in body) platform.server in
      kept-work platform outs last (slice platform body)
      (rising-take (count_in body) pending (rising-filter _ platform.server.pending h.rising))
      (take-keeps IsPrefix (count_in body) pending (filter-keeps IsPrefix _ platform.server.pending h.settled.pending)) h

  kept-drain : Kept (with_summary (work_on platform.server.pending platform)).after (outs ++ (with_summary (work_on platform.server.pending platform)).out) last
  kept-drain =
      let worked = work_on platform.server.pending platform in
      rw (← append_assoc outs worked.out (summary worked.after.server worked.after.updates ∷ []))
      (kept-silent worked.after (outs ++ worked.out) (summary worked.after.server worked.after.updates ∷ []) last (λ n. refl)
      (kept-work platform outs last platform.server.pending h.rising h.settled.pending h))

  -- where there is none
  kept-still : Kept platform (outs ++ []) last
  kept-still = kept-silent platform outs [] last (λ n. refl) h

  pub work-keeps : (k : Kind) → Kept (work_act platform body k).after (outs ++ (work_act platform body k).out) last
  work-keeps kind.Slice = kept-slice
  work-keeps kind.Drain = kept-drain
  work-keeps kind.Roster = kept-still
  work-keeps kind.Ready = kept-still
  work-keeps kind.Raw = kept-still
  work-keeps kind.Octets = kept-still
  work-keeps kind.Closed = kept-still
  work-keeps kind.Links = kept-still
  work-keeps kind.Time = kept-still
  work-keeps kind.Finish = kept-still
