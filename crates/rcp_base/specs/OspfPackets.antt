-- OSPF packets in a stream of octets (RFC 2328 section A.3.1): the one reading of a stream.
use Rattle.std.specs.Prelude.{◌≡◌, ℕ, ◌+◌, ◌*◌, ◌==◌, ◌&&◌, Bool, not, List, ◌++◌, length, slice_index, nat_lt, nat_le, Option, Some, None, if◌then◌else◌}
use Rattle.std.specs.Int.{w32}
use Rattle.std.specs.List.{concat, AllByRecursion}
use Rattle.rcp_base.specs.Octets.{number_at}
use Rattle.rcp_base.specs.Cut.{cut}

-- the fields of a header, each 0 past the end of the octets

abbrev pub version : List ℕ → ℕ
version octets = slice_index octets 0

abbrev pub packet_type : List ℕ → ℕ
packet_type octets = slice_index octets 1

abbrev pub packet_len : List ℕ → ℕ
packet_len octets = 256 * slice_index octets 2 + slice_index octets 3

abbrev pub area_id : List ℕ → ℕ
area_id octets = number_at w32 8 octets

-- the type of a Link State Update (section A.3.5)
abbrev pub LINK_STATE_UPDATE : ℕ
LINK_STATE_UPDATE = 4

-- the octets of a header, and the least length of a packet: a Link State Update has a count after it
abbrev pub packet_header_len : ℕ
packet_header_len = 24

abbrev pub least_packet_len : ℕ → ℕ
least_packet_len kind = if kind == LINK_STATE_UPDATE then 28 else packet_header_len

-- a header with version 2 and a length that a packet of its type can have
abbrev pub is_faultless : List ℕ → Bool
is_faultless octets = version octets == 2 && nat_le (least_packet_len (packet_type octets)) (packet_len octets)

-- what stands in front of a stream
pub data Front : Type 0 where
  -- a whole packet of so many octets
  whole : ℕ → Front
  -- less than a header, or a faultless one with less than its packet
  part : Front
  -- a header that no packet has
  lost : Front

-- a header is judged as soon as its octets are there
abbrev pub front_of : List ℕ → Front
front_of octets =
    if nat_lt (length octets) packet_header_len then part
    else if not (is_faultless octets) then lost
    else if nat_lt (length octets) (packet_len octets) then part
    else whole (packet_len octets)

abbrev pub IsPacket : List ℕ → Type 0
IsPacket octets = front_of octets ≡ whole (length octets)

-- what a stream ends in: no whole packet
abbrev pub IsPacketRest : List ℕ → Type 0
IsPacketRest octets = (len : ℕ) → front_of octets ≡ whole len → ⊥

-- The stream is these whole packets, and then a rest that begins with none.
pub record ReadsPackets (stream : List ℕ) (packets : List (List ℕ)) (rest : List ℕ) : Type 0 where
  pub stream_is : stream ≡ concat packets ++ rest
  pub each : AllByRecursion IsPacket packets
  pub last : IsPacketRest rest

-- that reading, computed

-- the length of the packet in front, where a whole one stands there
unfoldable pub packet_size : List ℕ → Option ℕ
packet_size octets = elim (front_of octets) [ whole len ↦ Some len | part ↦ None | lost ↦ None ]

abbrev pub packets_in : List ℕ → List (List ℕ)
packets_in stream = (cut packet_size stream).0

abbrev pub rest_in : List ℕ → List ℕ
rest_in stream = (cut packet_size stream).1
