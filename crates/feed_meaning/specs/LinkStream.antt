-- The stream of link state (RFC 2328 section A.3.1): OSPF packets one after another, whose octets come in pieces of any length.
use Rattle.std.specs.Prelude.{ℕ, ◌+◌, List, length, Option, Some, None}
use Rattle.std.specs.List.{concat}
use Rattle.rcp_base.specs.OspfPackets.{Front, lost, front_of, packets_in, rest_in}

-- Octets are held that belong to no whole packet yet, of which the first stands at a place of the stream; or the framing is lost for good.
pub data LinkStream : Type 0 where
  Reading : List ℕ → ℕ → LinkStream
  Lost : LinkStream

-- the packets that have come to be whole, the stream after them, and where its framing was lost, if so
pub record Framed : Type 0 where
  pub packets : List (List ℕ)
  pub stream : LinkStream
  pub lost_at : Option ℕ

-- What follows the whole packets is held, unless it begins with a header that no packet has.
abbrev pub held_after : List (List ℕ) → ℕ → List ℕ → Front → Framed
held_after packets place rest lost = record { packets = packets; stream = Lost; lost_at = Some place }
held_after packets place rest front = record { packets = packets; stream = Reading rest place; lost_at = None }

-- octets of which the first stands at a place
abbrev pub framed : ℕ → List ℕ → Framed
framed place octets =
    let packets = packets_in octets in
    held_after packets (place + length (concat packets)) (rest_in octets) (front_of (rest_in octets))
