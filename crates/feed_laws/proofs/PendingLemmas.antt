-- What is pending after one record of the stream of link state is pending after the records of any cut of it.
use Rattle.std.proofs.Common.{◌≡◌, ℕ, zero, suc, ◌+◌, Bool, true, false, not, ◌||◌, List, [], ◌∷◌, ◌++◌, length, map, Option, Some, None, refl, sym, ap, subst, ◌∙◌, inl, inr, append_assoc, append-nil}
use Rattle.std.specs.List.{concat}
use Rattle.std.proofs.lemmas.Bool.{cases_Bool, eqb-true, eq-eqb, or_cases, or_left, or_right, or_parts, or_from, both_ways}
use Rattle.rcp_base.specs.IpPrefix.{IpPrefix}
use Rattle.rcp_base.specs.Maps.{same_prefix, include_all, is_among}
use Rattle.rcp_base.specs.declared.names.Edge.{Edge}
use Rattle.rcp_base.specs.declared.names.Member.{Member}
use Rattle.rcp_base.proofs.MapLemmas.{is_among-include_all}
use Rattle.rcp_base.specs.OspfPackets.{front_of, packets_in, rest_in}
use Rattle.rcp_model.specs.LinkState.{LinkState}
use Rattle.rcp_model.specs.LinkStateUpdates.{after_packets}
use Rattle.rcp_model.specs.Edges.{edges_of}
use Rattle.rcp_model.proofs.PacketLemmas.{after_packets-append}
use Rattle.feed_meaning.specs.LinkStream.{LinkStream, Reading, Lost, Framed, framed}
use Rattle.feed_meaning.specs.Platform.{Platform, Acted, domain_of}
use Rattle.feed_meaning.specs.LinkRecords.{packets_act}
use Rattle.feed_meaning.specs.Runs.{act}
use Rattle.feed_laws.specs.Cuts.{links_record, run_of}
use Rattle.feed_laws.proofs.RunLemmas.{joined, run_cons, run_nil}
use Rattle.feed_laws.proofs.LinkLemmas.{before_packets, Goes, goes, by_stream}
use Rattle.rcp_model.specs.RouteServer.{Domain, Server, Announcements, Links, slot_cost, same_cost, cost_differs, moved, announced_prefixes, is_pending, after}

-- ---- costs

same_cost-is : (a b : Option ℕ) → same_cost a b ≡ true → a ≡ b
same_cost-is None None e = refl
same_cost-is None (Some n) e = absurd cc
same_cost-is (Some m) None e = absurd cc
same_cost-is (Some m) (Some n) e = ap Some (eqb-true m n e)

same_cost-itself : (a : Option ℕ) → same_cost a a ≡ true
same_cost-itself None = refl
same_cost-itself (Some m) = eq-eqb m m refl

-- a cost that is the same twice is the same over both
same_twice : (a b c : Option ℕ) → not (same_cost a b) ≡ false → not (same_cost b c) ≡ false → not (same_cost a c) ≡ false
same_twice a b c first second =
    let one : a ≡ b = same_cost-is a b (kept (same_cost a b) first) in
    let two : b ≡ c = same_cost-is b c (kept (same_cost b c) second) in
    ap not (ap (λ (x : Option ℕ). same_cost x c) (one ∙ two) ∙ same_cost-itself c)
  where
    kept : (t : Bool) → not t ≡ false → t ≡ true
    kept true e = refl
    kept false e = absurd cc

module _ (members : List Member) (first second third : List Edge) (e : ℕ) where
  differs_no : (n : ℕ) → cost_differs first second members e n ≡ false → cost_differs second third members e n ≡ false → cost_differs first third members e n ≡ false
  differs_no zero one two = refl
  differs_no (suc q) one two =
      let a = or_parts (not (same_cost (slot_cost first members q e) (slot_cost second members q e))) (cost_differs first second members e q) one in
      let b = or_parts (not (same_cost (slot_cost second members q e) (slot_cost third members q e))) (cost_differs second third members e q) two in
      or_from (not (same_cost (slot_cost first members q e) (slot_cost third members q e))) (cost_differs first third members e q)
      (same_twice (slot_cost first members q e) (slot_cost second members q e) (slot_cost third members q e) a.0 b.0) (differs_no q a.1 b.1)

-- ---- prefixes

module _ (domain : Domain) (first second third : List Edge) where
  abbrev among : List Edge → List Edge → Announcements → IpPrefix → Bool
  among before now announcements p = is_among (announced_prefixes (moved domain before now announcements)) p

  -- a prefix that isn't moved by the one change nor by the other isn't by both
  moved_no : (announcements : Announcements) (p : IpPrefix) → among first second announcements p ≡ false → among second third announcements p ≡ false → among first third announcements p ≡ false
  moved_no [] p one two = refl
  moved_no (entry ∷ announcements) p one two =
      let slots = length domain.members in
      elim (cases_Bool (cost_differs first third domain.members entry.0.0 slots)) [
        | inr still ↦ rw still (moved_no announcements p (later first second one) (later second third two))
        | inl differs ↦ rw differs (or_from (same_prefix p entry.0.1) (among first third announcements p)
            (elim (cases_Bool (cost_differs first second domain.members entry.0.0 slots)) [
              | inl here ↦ (or_parts (same_prefix p entry.0.1) (among first second announcements p) (rw here at one)).0
              | inr other ↦ elim (cases_Bool (cost_differs second third domain.members entry.0.0 slots)) [
                | inl there ↦ (or_parts (same_prefix p entry.0.1) (among second third announcements p) (rw there at two)).0
                | inr neither ↦ absurd (both_ways (cost_differs first third domain.members entry.0.0 slots) (differs_no domain.members first second third entry.0.0 slots other neither) differs)
              ]
            ])
            (moved_no announcements p (later first second one) (later second third two)))
      ]
    where
      later : (before now : List Edge) → among before now (entry ∷ announcements) p ≡ false → among before now announcements p ≡ false
      later before now none =
          elim (cases_Bool (cost_differs before now domain.members entry.0.0 (length domain.members))) [
            | inl t ↦ (or_parts (same_prefix p entry.0.1) (among before now announcements p) (rw t at none)).1
            | inr f ↦ rw f at none
          ]

pub links_twice : (domain : Domain) (middle last : List Edge) (server : Server) (p : IpPrefix) → is_pending (after domain (Links last) server) p ≡ true
    → is_pending (after domain (Links last) (after domain (Links middle) server)) p ≡ true
unfolding after
links_twice domain middle last server p pending =
    let was = server.pending in
    let ann = server.announcements in
    let one = announced_prefixes (moved domain server.edges middle ann) in
    let two = announced_prefixes (moved domain middle last ann) in
    let all = announced_prefixes (moved domain server.edges last ann) in
    is_among-include_all two (include_all one was) p
    ∙ ap (λ (b : Bool). is_among two p || b) (is_among-include_all one was p)
    ∙ elim (or_cases (is_among all p) (is_among was p) (sym (is_among-include_all all was p) ∙ pending)) [
      | inr before ↦ or_right (is_among two p) (is_among one p || is_among was p) (or_right (is_among one p) (is_among was p) before)
      | inl moved_ ↦ elim (cases_Bool (is_among two p)) [
        | inl t ↦ or_left (is_among two p) (is_among one p || is_among was p) t
        | inr f ↦ or_right (is_among two p) (is_among one p || is_among was p) (
            elim (cases_Bool (is_among one p)) [
              | inl s ↦ or_left (is_among one p) (is_among was p) s
              | inr g ↦ absurd (both_ways (is_among all p) (moved_no domain server.edges middle last ann p g f) moved_)
            ])
      ]
    ]

-- ---- records

abbrev IsPending : Acted → IpPrefix → Type 0
IsPending acted p = is_pending acted.after.server p ≡ true

-- packets of two records compare the costs twice
packets_pending : (platform : Platform) (first : Framed) (packets : List (List ℕ)) (found : Framed) (p : IpPrefix) → first.packets ≡ packets
    → IsPending (packets_act (before_packets packets found) platform) p → IsPending (packets_act found (packets_act first platform).after) p
packets_pending platform first packets found p same pending =
    let area = platform.roster.area in
    let now = platform.moment in
    let domain = domain_of platform.roster in
    let middle = after_packets area now first.packets platform.link_state in
    let state : after_packets area now (packets ++ found.packets) platform.link_state ≡ after_packets area now found.packets (after_packets area now first.packets platform.link_state) =
    after_packets-append area now packets found.packets platform.link_state
    ∙ ap (λ (ps : List (List ℕ)). after_packets area now found.packets (after_packets area now ps platform.link_state)) (sym same) in
    links_twice domain (edges_of middle platform.roster.links) (edges_of (after_packets area now found.packets middle) platform.roster.links) platform.server p
    (subst (λ (s : LinkState). is_pending (after domain (Links (edges_of s platform.roster.links)) platform.server) p ≡ true) state pending)

module _ (platform : Platform) (piece more : List ℕ) (p : IpPrefix) where
  abbrev PendingAfter : Acted → Type 0
  PendingAfter first = IsPending (act first.after (links_record more)) p

  lost_pending : platform.stream ≡ Lost → IsPending (act platform (links_record (piece ++ more))) p → PendingAfter (act platform (links_record piece))
  lost_pending is pending =
      subst PendingAfter (sym (by_stream platform Lost piece is))
      (subst (λ (acted : Acted). IsPending acted p) (sym (by_stream platform Lost more is))
      (subst (λ (acted : Acted). IsPending acted p) (by_stream platform Lost (piece ++ more) is) pending))

  module _ (held : List ℕ) (place : ℕ) where
    abbrev first : Framed
    first = framed place (held ++ piece)

    read_pending : Goes place (held ++ piece) more → IsPending (packets_act (framed place ((held ++ piece) ++ more)) platform) p → PendingAfter (packets_act first platform)
    read_pending (inl (gone, same)) pending =
        subst (λ (acted : Acted). IsPending acted p) (sym (by_stream (packets_act first platform).after Lost more gone))
        (subst (λ (f : Framed). IsPending (packets_act f platform) p) same pending)
    read_pending (inr (on, none, same, all)) pending =
        let rest = rest_in (held ++ piece) in
        let at = place + length (concat (packets_in (held ++ piece))) in
        subst (λ (acted : Acted). IsPending acted p) (sym (by_stream (packets_act first platform).after (Reading rest at) more on))
        (packets_pending platform first (packets_in (held ++ piece)) (framed at (rest ++ more)) p same
        (subst (λ (f : Framed). IsPending (packets_act f platform) p) all pending))

    held_pending : platform.stream ≡ Reading held place → IsPending (act platform (links_record (piece ++ more))) p → PendingAfter (act platform (links_record piece))
    held_pending reading pending =
        let whole_is : act platform (links_record (piece ++ more)) ≡ packets_act (framed place ((held ++ piece) ++ more)) platform =
        by_stream platform (Reading held place) (piece ++ more) reading
        ∙ ap (λ (octets : List ℕ). packets_act (framed place octets) platform) (sym (append_assoc held piece more)) in
        subst PendingAfter (sym (by_stream platform (Reading held place) piece reading))
        (read_pending (goes place (held ++ piece) more (front_of (rest_in (held ++ piece))) refl) (subst (λ (acted : Acted). IsPending acted p) whole_is pending))

  by_pending : (stream : LinkStream) → platform.stream ≡ stream → IsPending (act platform (links_record (piece ++ more))) p → PendingAfter (act platform (links_record piece))
  by_pending (Reading held place) is pending = held_pending held place is pending
  by_pending Lost is pending = lost_pending is pending

pub any_pending : (platform : Platform) (piece : List ℕ) (pieces : List (List ℕ)) (p : IpPrefix)
    → IsPending (act platform (links_record (concat (piece ∷ pieces)))) p → IsPending (run_of platform (map links_record (piece ∷ pieces))) p
any_pending platform piece [] p pending =
    subst (λ (acted : Acted). IsPending acted p) (sym (run_cons platform (links_record piece) [] ∙ ap (joined (act platform (links_record piece))) (run_nil (act platform (links_record piece)).after)))
    (subst (λ (body : List ℕ). IsPending (act platform (links_record body)) p) (append-nil piece) pending)
any_pending platform piece (next ∷ pieces) p pending =
    let first = act platform (links_record piece) in
    subst (λ (acted : Acted). IsPending acted p) (sym (run_cons platform (links_record piece) (map links_record (next ∷ pieces))))
    (any_pending first.after next pieces p (by_pending platform piece (concat (next ∷ pieces)) p platform.stream refl pending))
