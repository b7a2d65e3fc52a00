-- What a framer has of a stream, and what its calls do to it.
use Rattle.std.specs.Prelude.{◌≡◌, ℕ, ◌+◌, ◌-◌, ◌^◌, ◌<◌, ◌≤◌, List, [], ◌∷◌, ◌++◌, length, min, IsTrue}
use Rattle.rcp_base.specs.OspfPackets.{whole, part, lost, front_of, is_faultless, packet_len, packet_header_len}

-- the octets that came and weren't handed out, and where in the stream the first of them stands
pub record Framing : Type 0 where
  pub held : List ℕ
  pub place : ℕ

-- a place in a stream as a number of 64 bits: one beyond is given as the last
abbrev pub capped_place : ℕ → ℕ
capped_place place = min place (2 ^ 64 - 1)

abbrev pub at_start : Framing
at_start = record { held = []; place = 0 }

-- A whole packet is handed out. Else nothing changes.
abbrev pub after_next : Framing → Framing
after_next framing =
    elim (front_of framing.held) [
      | whole len ↦ record { held = []; place = capped_place (framing.place + len) }
      | part ↦ framing
      | lost ↦ framing
    ]

-- a framer holds at most a header that no packet has, or one packet
abbrev pub HoldsOne : List ℕ → Type 0
HoldsOne held = packet_header_len < length held → IsTrue (is_faultless held) × (length held ≤ packet_len held)

-- a call of `feed` that took these octets, or a call of `next` that handed out this packet
pub data Call : Type 0 where
  fed : List ℕ → Call
  handed : List ℕ → Call

abbrev pub Leads : Framing → Call → Framing → Type 0
Leads old (fed octets) new = new ≡ record old { held = old.held ++ octets }
Leads old (handed octets) new = (front_of old.held ≡ whole (length octets)) × (old.held ≡ octets) × (new ≡ after_next old)

-- these calls, one after another
abbrev pub Run : Framing → List Call → Framing → Type 0
Run start [] end = end ≡ start
Run start (call ∷ calls) end = (middle : Framing) × Leads start call middle × Run middle calls end

abbrev pub fed_octets : List Call → List ℕ
fed_octets [] = []
fed_octets (fed octets ∷ calls) = octets ++ fed_octets calls
fed_octets (handed octets ∷ calls) = fed_octets calls

abbrev pub handed_packets : List Call → List (List ℕ)
handed_packets [] = []
handed_packets (fed octets ∷ calls) = handed_packets calls
handed_packets (handed octets ∷ calls) = octets ∷ handed_packets calls
