-- Any cut of the stream of link state.
use Rattle.std.proofs.Common.{◌≡◌, ℕ, ◌+◌, List, [], ◌∷◌, ◌++◌, length, map, None, refl, sym, ap, ◌∙◌, ◌⊎◌, inl, inr, append_assoc, append-nil, length-append, arith}
use Rattle.std.specs.List.{concat}
use Rattle.std.proofs.lemmas.List.Folds.{concat-append}
use Rattle.rcp_base.specs.OspfPackets.{Front, whole, part, lost, front_of, packet_size, packets_in, rest_in}
use Rattle.rcp_base.specs.Feed.{OutRecord}
use Rattle.rcp_model.specs.LinkStateUpdates.{after_packets}
use Rattle.rcp_model.specs.RouteServer.{after}
use Rattle.feed_meaning.specs.LinkStream.{LinkStream, Reading, Lost, Framed, held_after, framed}
use Rattle.feed_meaning.specs.Platform.{Platform, Acted}
use Rattle.feed_meaning.specs.OutRecords.{lost_record}
use Rattle.feed_meaning.specs.LinkRecords.{packets_act, stream_act}
use Rattle.feed_meaning.specs.Runs.{act}
use Rattle.rcp_base.proofs.CutLemmas.{cut-stop}
use Rattle.rcp_model.proofs.PacketLemmas.{after_packets-append}
use Rattle.ospf_packet.proofs.Reading.{front_of-append_lost}
use Rattle.ospf_packet.proofs.Streams.{packets_in-append, rest_in-append, packets_in-lost}
use Rattle.feed_laws.specs.Cuts.{links_record, run_of, but_pending, acted_but_pending}
use Rattle.feed_laws.proofs.RunLemmas.{joined, run_cons, run_nil}

-- ---- the stream

-- with more octets after it framing that is lost stays so
lost_rest : (octets more : List ℕ) → front_of (rest_in octets) ≡ lost → front_of (rest_in (octets ++ more)) ≡ lost
unfolding packet_size
lost_rest octets more is =
    let still : front_of (rest_in octets ++ more) ≡ lost = front_of-append_lost (rest_in octets) more is in
    let none : packet_size (rest_in octets ++ more) ≡ None = rw (packet_size, still) refl in
    ap front_of (rest_in-append octets more ∙ ap (λ (c : List (List ℕ) × List ℕ). c.1) (cut-stop packet_size (rest_in octets ++ more) none)) ∙ still

-- what is framed, by what stands in front of the rest
framed_by : (place : ℕ) (octets : List ℕ) (front : Front) → front_of (rest_in octets) ≡ front
    → framed place octets ≡ held_after (packets_in octets) (place + length (concat (packets_in octets))) (rest_in octets) front
framed_by place octets front is = ap (held_after (packets_in octets) (place + length (concat (packets_in octets))) (rest_in octets)) is

after_lost : (place : ℕ) (octets more : List ℕ) → front_of (rest_in octets) ≡ lost → framed place (octets ++ more) ≡ framed place octets
after_lost place octets more is =
    framed_by place (octets ++ more) lost (lost_rest octets more is)
    ∙ ap (λ (packets : List (List ℕ)). held_after packets (place + length (concat packets)) [] lost) (packets_in-lost octets more is)
    ∙ sym (framed_by place octets lost is)

-- packets that came before
abbrev pub before_packets : List (List ℕ) → Framed → Framed
before_packets packets found = record found { packets = packets ++ found.packets }

held_later : (first packets : List (List ℕ)) (place : ℕ) (rest : List ℕ) (front : Front) → held_after (first ++ packets) place rest front ≡ before_packets first (held_after packets place rest front)
held_later first packets place rest (whole n) = refl
held_later first packets place rest part = refl
held_later first packets place rest lost = refl

after_read : (place : ℕ) (octets more : List ℕ)
    → framed place (octets ++ more) ≡ before_packets (packets_in octets) (framed (place + length (concat (packets_in octets))) (rest_in octets ++ more))
after_read place octets more =
    let first = packets_in octets in
    let packets = packets_in (rest_in octets ++ more) in
    let rest = rest_in (rest_in octets ++ more) in
    let count : place + length (concat (first ++ packets)) ≡ place + length (concat first) + length (concat packets) =
    omega (arith, ap length (concat-append first packets), length-append (concat first) (concat packets)) in
    ap (λ (ps : List (List ℕ)). held_after ps (place + length (concat ps)) (rest_in (octets ++ more)) (front_of (rest_in (octets ++ more)))) (packets_in-append octets more)
    ∙ ap (λ (r : List ℕ). held_after (first ++ packets) (place + length (concat (first ++ packets))) r (front_of r)) (rest_in-append octets more)
    ∙ ap (λ (n : ℕ). held_after (first ++ packets) n rest (front_of rest)) count
    ∙ held_later first packets (place + length (concat first) + length (concat packets)) rest (front_of rest)

-- Either the framing is lost, and more octets are of no account; or they are framed with those that are held.
abbrev pub Goes : ℕ → List ℕ → List ℕ → Type 0
Goes place octets more =
    (((framed place octets).stream ≡ Lost) × (framed place (octets ++ more) ≡ framed place octets))
    ⊎ (((framed place octets).stream ≡ Reading (rest_in octets) (place + length (concat (packets_in octets)))) × ((framed place octets).lost_at ≡ None)
    × ((framed place octets).packets ≡ packets_in octets)
    × (framed place (octets ++ more) ≡ before_packets (packets_in octets) (framed (place + length (concat (packets_in octets))) (rest_in octets ++ more))))

pub goes : (place : ℕ) (octets more : List ℕ) (front : Front) → front_of (rest_in octets) ≡ front → Goes place octets more
goes place octets more lost is = inl (ap (λ (f : Framed). f.stream) (framed_by place octets lost is), after_lost place octets more is)
goes place octets more part is =
    let same = framed_by place octets part is in
    inr (ap (λ (f : Framed). f.stream) same, ap (λ (f : Framed). f.lost_at) same, ap (λ (f : Framed). f.packets) same, after_read place octets more)
goes place octets more (whole n) is =
    let same = framed_by place octets (whole n) is in
    inr (ap (λ (f : Framed). f.stream) same, ap (λ (f : Framed). f.lost_at) same, ap (λ (f : Framed). f.packets) same, after_read place octets more)

-- ---- the platform

links_are : (platform : Platform) (body : List ℕ) → act platform (links_record body) ≡ stream_act platform.stream body platform
unfolding act
links_are platform body =
    ap (λ (outs : List OutRecord). record { after = (stream_act platform.stream body platform).after; out = outs }) (append-nil (stream_act platform.stream body platform).out)

pub by_stream : (platform : Platform) (stream : LinkStream) (body : List ℕ) → platform.stream ≡ stream → act platform (links_record body) ≡ stream_act stream body platform
by_stream platform stream body is = links_are platform body ∙ ap (λ (s : LinkStream). stream_act s body platform) is

-- packets of two records act as those of one
packets_twice : (platform : Platform) (first : Framed) (packets : List (List ℕ)) (found : Framed) → first.packets ≡ packets → first.lost_at ≡ None
    → acted_but_pending (packets_act (before_packets packets found) platform) ≡ joined (packets_act first platform) (acted_but_pending (packets_act found (packets_act first platform).after))
unfolding after
packets_twice platform first packets found same none =
    let area = platform.roster.area in
    let now = platform.moment in
    let state : after_packets area now (packets ++ found.packets) platform.link_state ≡ after_packets area now found.packets (after_packets area now first.packets platform.link_state) =
    after_packets-append area now packets found.packets platform.link_state
    ∙ ap (λ (ps : List (List ℕ)). after_packets area now found.packets (after_packets area now ps platform.link_state)) (sym same) in
    rw (state, none) refl

module _ (platform : Platform) (piece more : List ℕ) where
  abbrev then_more : Acted → Acted
  then_more first = joined first (acted_but_pending (act first.after (links_record more)))

  two_lost : platform.stream ≡ Lost → acted_but_pending (act platform (links_record (piece ++ more))) ≡ then_more (act platform (links_record piece))
  two_lost is =
      ap acted_but_pending (by_stream platform Lost (piece ++ more) is)
      ∙ sym (ap then_more (by_stream platform Lost piece is) ∙ ap acted_but_pending (by_stream platform Lost more is))

  module _ (held : List ℕ) (place : ℕ) (reading : platform.stream ≡ Reading held place) where
    abbrev first : Framed
    first = framed place (held ++ piece)

    one_is : act platform (links_record piece) ≡ packets_act first platform
    one_is = by_stream platform (Reading held place) piece reading

    both_is : act platform (links_record (piece ++ more)) ≡ packets_act (framed place ((held ++ piece) ++ more)) platform
    both_is =
        by_stream platform (Reading held place) (piece ++ more) reading
        ∙ ap (λ (octets : List ℕ). packets_act (framed place octets) platform) (sym (append_assoc held piece more))

    two_read : Goes place (held ++ piece) more
        → acted_but_pending (packets_act (framed place ((held ++ piece) ++ more)) platform) ≡ then_more (packets_act first platform)
    two_read (inl (gone, same)) =
        ap (λ (f : Framed). acted_but_pending (packets_act f platform)) same
        ∙ sym (ap (λ (acted : Acted). joined (packets_act first platform) (acted_but_pending acted)) (by_stream (packets_act first platform).after Lost more gone)
        ∙ ap (λ (outs : List OutRecord). record { after = but_pending (packets_act first platform).after; out = outs }) (append-nil (lost_record first.lost_at)))
    two_read (inr (on, none, same, all)) =
        let rest = rest_in (held ++ piece) in
        let at = place + length (concat (packets_in (held ++ piece))) in
        ap (λ (f : Framed). acted_but_pending (packets_act f platform)) all
        ∙ packets_twice platform first (packets_in (held ++ piece)) (framed at (rest ++ more)) same none
        ∙ sym (ap (λ (acted : Acted). joined (packets_act first platform) (acted_but_pending acted)) (by_stream (packets_act first platform).after (Reading rest at) more on))

    two_held : acted_but_pending (act platform (links_record (piece ++ more))) ≡ then_more (act platform (links_record piece))
    two_held =
        ap acted_but_pending both_is
        ∙ two_read (goes place (held ++ piece) more (front_of (rest_in (held ++ piece))) refl)
        ∙ sym (ap then_more one_is)

  two_by : (stream : LinkStream) → platform.stream ≡ stream → acted_but_pending (act platform (links_record (piece ++ more))) ≡ then_more (act platform (links_record piece))
  two_by (Reading held place) is = two_held held place is
  two_by Lost is = two_lost is

  pub two_links : acted_but_pending (act platform (links_record (piece ++ more)))
      ≡ joined (act platform (links_record piece)) (acted_but_pending (act (act platform (links_record piece)).after (links_record more)))
  two_links = two_by platform.stream refl

pub any_links : (platform : Platform) (piece : List ℕ) (pieces : List (List ℕ))
    → acted_but_pending (run_of platform (map links_record (piece ∷ pieces))) ≡ acted_but_pending (act platform (links_record (concat (piece ∷ pieces))))
any_links platform piece [] =
    ap acted_but_pending (run_cons platform (links_record piece) []
    ∙ ap (joined (act platform (links_record piece))) (run_nil (act platform (links_record piece)).after)
    ∙ ap (λ (outs : List OutRecord). record { after = (act platform (links_record piece)).after; out = outs }) (append-nil (act platform (links_record piece)).out)
    ∙ ap (λ (body : List ℕ). act platform (links_record body)) (sym (append-nil piece)))
any_links platform piece (next ∷ pieces) =
    let first = act platform (links_record piece) in
    ap acted_but_pending (run_cons platform (links_record piece) (map links_record (next ∷ pieces)))
    ∙ ap (joined first) (any_links first.after next pieces)
    ∙ sym (two_links platform piece (concat (next ∷ pieces)))
