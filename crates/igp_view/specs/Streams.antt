-- The stream of link state (RFC 2328 section A.3.1): OSPF packets one after another, whose octets come in pieces of any length.
use Rattle.std.specs.Prelude.{ℕ, ◌+◌, Bool, true, false, List, [], ◌++◌, length, Option, Some, None}
use Rattle.std.specs.List.{concat}
use Rattle.rcp_base.specs.OspfPackets.{Front, whole, part, lost, front_of, packets_in, rest_in}
use Rattle.rcp_model.specs.LinkState.{LinkState, aged}
use Rattle.rcp_model.specs.LinkStateUpdates.{ReadLsa, lsas_of_packets, after_packets}
use Rattle.ospf_packet.specs.Framing.{Framing, capped_place}

-- the octets that belong to no whole packet yet, and where in the stream the first of them stands; none once the framing is lost
abbrev pub Stream : Type 0
Stream = Option Framing

-- what follows the whole packets of the octets that are held and of a piece
abbrev pub framing_after : Framing → List ℕ → Framing
framing_after framing piece =
    let octets = framing.held ++ piece in
    record { held = rest_in octets; place = capped_place (framing.place + length (concat (packets_in octets))) }

abbrev pub while_framed : Framing → Front → Stream
while_framed framing lost = None
while_framed framing front = Some framing

abbrev pub place_if_lost : Framing → Front → Option ℕ
place_if_lost framing lost = Some framing.place
place_if_lost framing front = None

-- the packets that a piece completes
abbrev pub packets_of : Stream → List ℕ → List (List ℕ)
packets_of None piece = []
packets_of (Some framing) piece = packets_in (framing.held ++ piece)

-- the stream after a piece
abbrev pub stream_after : Stream → List ℕ → Stream
stream_after None piece = None
stream_after (Some framing) piece = while_framed (framing_after framing piece) (front_of (framing_after framing piece).held)

-- where a piece loses the framing, if it does
abbrev pub lost_by : Stream → List ℕ → Option ℕ
lost_by None piece = None
lost_by (Some framing) piece = place_if_lost (framing_after framing piece) (front_of (framing_after framing piece).held)

-- the router LSAs that a piece brings to an area, each read or with its fault
abbrev pub lsas_by : ℕ → Stream → List ℕ → List ReadLsa
lsas_by area stream piece = lsas_of_packets area (packets_of stream piece)

-- the link state after a piece that comes at a time
abbrev pub state_after : ℕ → ℕ → Stream → List ℕ → LinkState → LinkState
state_after area now stream piece state = after_packets area now (packets_of stream piece) (aged now state)

-- the stream of a framer, by whether its framing is lost
abbrev pub stream_of : Bool → Framing → Stream
stream_of true framing = None
stream_of false framing = Some framing
