-- Each stream has exactly one reading.
use Rattle.std.proofs.Common.{◌≡◌, ◌++◌, ◌∙◌, ◌∷◌, [], ⊎_elim, ℕ, List, Option, Some, None, length, ap, sym, refl, subst, append-nil, arith}
use Rattle.std.specs.List.{concat, AllByRecursion}
use Rattle.rcp_base.specs.Cut.{cut}
use Rattle.rcp_base.specs.OspfPackets.{Front, whole, part, lost, front_of, IsPacket, IsPacketRest, ReadsPackets, packet_size, packets_in, rest_in}
use Rattle.rcp_base.proofs.CutLemmas.{IsSize, IsLocal, IsFront, cut-stop, cut-whole, cut-rest, cut-concat, cut-later, pieces_are_fronts}
use Rattle.ospf_packet.proofs.Reading.{HasPacket-from_front, front_of-append_whole, front_of-append_lost, front_of-append_seen}

-- ---- the length of the packet in front

abbrev size_at : Front → Option ℕ
size_at front = elim front [ whole len ↦ Some len | part ↦ None | lost ↦ None ]

size-whole : (octets : List ℕ) (len : ℕ) → front_of octets ≡ whole len → packet_size octets ≡ Some len
unfolding packet_size
size-whole octets len e = ap size_at e

front-sized : (octets : List ℕ) (len : ℕ) → packet_size octets ≡ Some len → front_of octets ≡ whole len
unfolding packet_size
front-sized octets len e = by_front (front_of octets) refl e where
  by_front : (front : Front) → front_of octets ≡ front → size_at front ≡ Some len → front_of octets ≡ whole len
  by_front (whole n) is e = is ∙ cc
  by_front part is e = cc
  by_front lost is e = cc

size-none : (octets : List ℕ) → IsPacketRest octets → packet_size octets ≡ None
unfolding packet_size
size-none octets last = by_front (front_of octets) refl where
  by_front : (front : Front) → front_of octets ≡ front → size_at front ≡ None
  by_front (whole len) is = absurd (last len is)
  by_front part is = refl
  by_front lost is = refl

rest-unsized : (octets : List ℕ) → packet_size octets ≡ None → IsPacketRest octets
rest-unsized octets none len e = let sized = size-whole octets len e in cc

IsSize-packet : IsSize packet_size
IsSize-packet = record {
  positive = λ octets n e. let p = HasPacket-from_front octets n (front-sized octets n e) in omega (arith, p.least);
  within = λ octets n e. let p = HasPacket-from_front octets n (front-sized octets n e) in p.there;
}

-- a packet is one by itself, and stays what it is, whatever follows
IsPacket-sized : (piece more : List ℕ) → packet_size (piece ++ more) ≡ Some (length piece) → IsPacket piece
IsPacket-sized piece more e = front_of-append_seen piece more (front-sized (piece ++ more) (length piece) e)

IsFront-packet : (piece : List ℕ) → IsPacket piece → IsFront packet_size piece
IsFront-packet piece p = record { seen = λ more. size-whole (piece ++ more) (length piece) (front_of-append_whole piece more (length piece) p) }

IsLocal-packet : IsLocal packet_size
IsLocal-packet = record { anyway = λ piece more other e. let front = IsFront-packet piece (IsPacket-sized piece more e) in front.seen other }

all_fronts : (packets : List (List ℕ)) → AllByRecursion IsPacket packets → AllByRecursion (IsFront packet_size) packets
all_fronts [] each = tt
all_fronts (first ∷ packets) each = (IsFront-packet first each.0, all_fronts packets each.1)

all_packets : (packets : List (List ℕ)) → AllByRecursion (IsFront packet_size) packets → AllByRecursion IsPacket packets
all_packets [] each = tt
all_packets (first ∷ packets) each = (IsPacket-sized first [] (each.0.seen []), all_packets packets each.1)

-- ---- the one reading

cut-rest_alone : (rest : List ℕ) → IsPacketRest rest → cut packet_size rest ≡ ([], rest)
cut-rest_alone rest last = cut-stop packet_size rest (size-none rest last)

-- there is no other reading
cut-packets : (packets : List (List ℕ)) (rest : List ℕ) → AllByRecursion IsPacket packets → IsPacketRest rest →
    cut packet_size (concat packets ++ rest) ≡ (packets, rest)
cut-packets packets rest each last =
    cut-concat packet_size IsSize-packet packets rest (all_fronts packets each)
    ∙ ap (λ (r : List (List ℕ) × List ℕ). (packets ++ r.0, r.1)) (cut-rest_alone rest last)
    ∙ ap (λ (l : List (List ℕ)). (l, rest)) (append-nil packets)

pub only_reading : (stream : List ℕ) (packets : List (List ℕ)) (rest : List ℕ) → ReadsPackets stream packets rest →
    (packets ≡ packets_in stream) × (rest ≡ rest_in stream)
only_reading stream packets rest r =
    let is : cut packet_size stream ≡ (packets, rest) = ap (cut packet_size) r.stream_is ∙ cut-packets packets rest r.each r.last in (
      sym (ap (λ (c : List (List ℕ) × List ℕ). c.0) is),
      sym (ap (λ (c : List (List ℕ) × List ℕ). c.1) is),
    )

-- and there is this one

rest_of_nothing : IsPacketRest []
rest_of_nothing len e = cc

pub one_reading : (stream : List ℕ) → ReadsPackets stream (packets_in stream) (rest_in stream)
one_reading stream = record {
  stream_is = cut-whole packet_size IsSize-packet stream;
  each = all_packets (packets_in stream) (pieces_are_fronts packet_size IsSize-packet IsLocal-packet stream);
  last = ⊎_elim
      (λ (none : rest_in stream ≡ []). subst IsPacketRest (sym none) rest_of_nothing)
      (λ (none : packet_size (rest_in stream) ≡ None). rest-unsized (rest_in stream) none)
      (cut-rest packet_size IsSize-packet stream);
}

-- what more octets add to a reading

pub packets_in-append : (stream more : List ℕ) → packets_in (stream ++ more) ≡ packets_in stream ++ packets_in (rest_in stream ++ more)
packets_in-append stream more = ap (λ (c : List (List ℕ) × List ℕ). c.0) (cut-later packet_size IsSize-packet IsLocal-packet stream more)

pub rest_in-append : (stream more : List ℕ) → rest_in (stream ++ more) ≡ rest_in (rest_in stream ++ more)
rest_in-append stream more = ap (λ (c : List (List ℕ) × List ℕ). c.1) (cut-later packet_size IsSize-packet IsLocal-packet stream more)

-- where the framing is lost, no packet comes any more
pub packets_in-lost : (stream more : List ℕ) → front_of (rest_in stream) ≡ lost → packets_in (stream ++ more) ≡ packets_in stream
packets_in-lost stream more e =
    let still : front_of (rest_in stream ++ more) ≡ lost = front_of-append_lost (rest_in stream) more e in
    packets_in-append stream more
    ∙ ap (λ (c : List (List ℕ) × List ℕ). packets_in stream ++ c.0) (cut-rest_alone (rest_in stream ++ more) (λ len w. cc))
    ∙ append-nil (packets_in stream)
