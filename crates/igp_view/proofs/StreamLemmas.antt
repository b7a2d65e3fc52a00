-- The stream of link state: what pieces one after another do.
use Rattle.std.proofs.Common.{◌≡◌, ℕ, ◌+◌, ◌-◌, ◌^◌, ◌≤◌, List, [], ◌∷◌, ◌++◌, length, min, Option, Some, None, refl, sym, ap, ap₂, subst, ◌∙◌, arith, length-append}
use Rattle.std.specs.Option.{option_or}
use Rattle.std.specs.List.{concat}
use Rattle.std.proofs.lemmas.List.{append_assoc}
use Rattle.std.proofs.lemmas.List.Folds.{concat-append}
use Rattle.rcp_base.specs.Cut.{cut}
use Rattle.rcp_base.specs.OspfPackets.{Front, whole, part, lost, front_of, packet_size, packets_in, rest_in}
use Rattle.rcp_base.proofs.CutLemmas.{cut-stop, cut-append}
use Rattle.ospf_packet.specs.Framing.{Framing, capped_place}
use Rattle.ospf_packet.proofs.Reading.{HasPacket-from_front, front_of-append_lost, front_of-append_whole}
use Rattle.ospf_packet.proofs.Streams.{packets_in-append, rest_in-append}
use Rattle.igp_view.specs.Streams.{Stream, framing_after, while_framed, place_if_lost, packets_of, stream_after, lost_by}

-- ---- octets with no whole packet in front

abbrev size_at : Front → Option ℕ
size_at front = elim front [ whole len ↦ Some len | part ↦ None | lost ↦ None ]

size-lost : (octets : List ℕ) → front_of octets ≡ lost → packet_size octets ≡ None
unfolding packet_size
size-lost octets is = ap size_at is

size-part : (octets : List ℕ) → front_of octets ≡ part → packet_size octets ≡ None
unfolding packet_size
size-part octets is = ap size_at is

size-whole : (octets : List ℕ) (len : ℕ) → front_of octets ≡ whole len → packet_size octets ≡ Some len
unfolding packet_size
size-whole octets len is = ap size_at is

pub none_in_lost : (octets : List ℕ) → front_of octets ≡ lost → (packets_in octets ≡ []) × (rest_in octets ≡ octets)
none_in_lost octets is = let stopped = cut-stop packet_size octets (size-lost octets is) in (ap (λ (c : List (List ℕ) × List ℕ). c.0) stopped, ap (λ (c : List (List ℕ) × List ℕ). c.1) stopped)

pub none_in_part : (octets : List ℕ) → front_of octets ≡ part → (packets_in octets ≡ []) × (rest_in octets ≡ octets)
none_in_part octets is = let stopped = cut-stop packet_size octets (size-part octets is) in (ap (λ (c : List (List ℕ) × List ℕ). c.0) stopped, ap (λ (c : List (List ℕ) × List ℕ). c.1) stopped)

pub packet_first : (packet more : List ℕ) → front_of packet ≡ whole (length packet) → (packets_in (packet ++ more) ≡ packet ∷ packets_in more) × (rest_in (packet ++ more) ≡ rest_in more)
packet_first packet more is =
    let stopped = cut-append packet_size packet more (size-whole (packet ++ more) (length packet) (front_of-append_whole packet more (length packet) is)) (let least = (HasPacket-from_front packet (length packet) is).least in omega arith) in
    (ap (λ (c : List (List ℕ) × List ℕ). c.0) stopped, ap (λ (c : List (List ℕ) × List ℕ). c.1) stopped)

-- ---- two pieces

pub length-concat_append : (first others : List (List ℕ)) → length (concat (first ++ others)) ≡ length (concat first) + length (concat others)
length-concat_append first others = ap length (concat-append first others) ∙ length-append (concat first) (concat others)

pub capped_twice : (place m n : ℕ) → capped_place (capped_place (place + m) + n) ≡ capped_place (place + (m + n))
capped_twice place m n = grind arith

module _ (framing : Framing) (first second : List ℕ) where
  joined : framing.held ++ (first ++ second) ≡ (framing.held ++ first) ++ second
  joined = sym (append_assoc framing.held first second)

  packets_joined : packets_in (framing.held ++ (first ++ second)) ≡ packets_in (framing.held ++ first) ++ packets_in ((framing_after framing first).held ++ second)
  packets_joined = ap packets_in joined ∙ packets_in-append (framing.held ++ first) second

  pub framing_twice : framing_after (framing_after framing first) second ≡ framing_after framing (first ++ second)
  framing_twice =
      ap₂ (λ (held : List ℕ) (place : ℕ). record { held = held; place = place })
      (sym (ap rest_in joined ∙ rest_in-append (framing.held ++ first) second))
      (capped_twice framing.place (length (concat (packets_in (framing.held ++ first)))) (length (concat (packets_in ((framing_after framing first).held ++ second))))
      ∙ ap (λ n. capped_place (framing.place + n))
      (sym (ap (λ (packets : List (List ℕ)). length (concat packets)) packets_joined ∙ length-concat_append (packets_in (framing.held ++ first)) (packets_in ((framing_after framing first).held ++ second)))))

-- once the framing is lost, no packet comes, and it stays lost at its place
module _ (framing : Framing) (piece : List ℕ) (is_lost : front_of framing.held ≡ lost) where
  lost_on : front_of (framing.held ++ piece) ≡ lost
  lost_on = front_of-append_lost framing.held piece is_lost

  no_packets : packets_in (framing.held ++ piece) ≡ []
  no_packets = (none_in_lost (framing.held ++ piece) lost_on).0

  front_after : front_of (framing_after framing piece).held ≡ lost
  front_after = ap front_of (none_in_lost (framing.held ++ piece) lost_on).1 ∙ lost_on

  place_after : (framing_after framing piece).place ≡ capped_place framing.place
  place_after = ap (λ (packets : List (List ℕ)). capped_place (framing.place + length (concat packets))) no_packets ∙ ap capped_place (zero_more framing.place) where
    zero_more : (n : ℕ) → n + 0 ≡ n
    zero_more n = omega arith

capped_itself : (n : ℕ) → capped_place (capped_place n) ≡ capped_place n
capped_itself n = grind arith

module _ (framing : Framing) (first second : List ℕ) where
  middle : Framing
  middle = framing_after framing first

  at_front : (front : Front) → front_of (framing_after framing first).held ≡ front
      → (stream_after (while_framed (framing_after framing first) front) second ≡ stream_after (Some framing) (first ++ second))
      × (lost_by (Some framing) (first ++ second) ≡ option_or (place_if_lost (framing_after framing first) front) (lost_by (while_framed (framing_after framing first) front) second))
      × (packets_of (Some framing) (first ++ second) ≡ packets_of (Some framing) first ++ packets_of (while_framed (framing_after framing first) front) second)
  at_front lost is = (
    sym (ap (λ (g : Framing). while_framed g (front_of g.held)) (sym (framing_twice framing first second)) ∙ ap (while_framed (framing_after (framing_after framing first) second)) (front_after (framing_after framing first) second is)),
    ap (λ (g : Framing). place_if_lost g (front_of g.held)) (sym (framing_twice framing first second))
        ∙ ap (place_if_lost (framing_after (framing_after framing first) second)) (front_after (framing_after framing first) second is)
        ∙ ap Some (place_after (framing_after framing first) second is ∙ capped_itself (framing.place + length (concat (packets_in (framing.held ++ first))))),
    packets_joined framing first second ∙ ap (λ (packets : List (List ℕ)). packets_in (framing.held ++ first) ++ packets) (no_packets (framing_after framing first) second is),
  )
  at_front part is = (
    ap (λ (g : Framing). while_framed g (front_of g.held)) (framing_twice framing first second),
    ap (λ (g : Framing). place_if_lost g (front_of g.held)) (sym (framing_twice framing first second)),
    packets_joined framing first second,
  )
  at_front (whole len) is = (
    ap (λ (g : Framing). while_framed g (front_of g.held)) (framing_twice framing first second),
    ap (λ (g : Framing). place_if_lost g (front_of g.held)) (sym (framing_twice framing first second)),
    packets_joined framing first second,
  )

pub stream_twice : (stream : Stream) (first second : List ℕ) → stream_after (stream_after stream first) second ≡ stream_after stream (first ++ second)
stream_twice None first second = refl
stream_twice (Some framing) first second = (at_front framing first second (front_of (framing_after framing first).held) refl).0

pub lost_twice : (stream : Stream) (first second : List ℕ) → lost_by stream (first ++ second) ≡ option_or (lost_by stream first) (lost_by (stream_after stream first) second)
lost_twice None first second = refl
lost_twice (Some framing) first second = (at_front framing first second (front_of (framing_after framing first).held) refl).1

pub packets_twice : (stream : Stream) (first second : List ℕ) → packets_of stream (first ++ second) ≡ packets_of stream first ++ packets_of (stream_after stream first) second
packets_twice None first second = refl
packets_twice (Some framing) first second = (at_front framing first second (front_of (framing_after framing first).held) refl).2
