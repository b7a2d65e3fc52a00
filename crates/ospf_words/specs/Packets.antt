-- OSPF packets as parts of a line (RFC 2328 sections A.3.1 and A.3.5).
use Rattle.std.specs.Prelude.{ℕ, ◌+◌, ◌^◌, List, [], ◌∷◌, ◌++◌, length, replicate, Result, Ok, nat_lt, if◌then◌else◌, bytes_eq, codes}
use Rattle.std.specs.Int.{w16, w32, to_be_bytes}
use Rattle.rcp_base.specs.Text.{address_of}
use Rattle.line_words.specs.declared.stop.WordFault.{WordFault}
use Rattle.line_words.specs.declared.stop.Why.TheVariants as why
use Rattle.line_words.specs.Reading.{◌>>=◌, faulty, value_word}
use Rattle.line_words.specs.Words.{hex_onto}
use Rattle.line_words.specs.Values.{octets_part}
use Rattle.line_words.specs.Fields.{field, optional_field, u8_of, u16_of, u32_of, sized_hex_onto}
use Rattle.ospf_words.specs.declared.packets.Header.{Header}
use Rattle.ospf_words.specs.declared.packets.PacketBody.{PacketBody}
use Rattle.ospf_words.specs.declared.packets.PacketBody.TheVariants as packet_body
use Rattle.ospf_words.specs.Checksums.{packet_checksum}
use Rattle.ospf_words.specs.Lsas.{lsas_within}

-- ---- the header

-- version 2, type, length, Router ID and Area ID
unfoldable pub front : Header → ℕ → List ℕ
front h len = 2 ∷ h.kind ∷ to_be_bytes w16 len ++ to_be_bytes w32 h.router ++ to_be_bytes w32 h.area

-- a packet: these, checksum, AuType, authentication and body
abbrev pub packet_with : Header → List ℕ → List ℕ → List ℕ → List ℕ
packet_with h checksum authentication body = front h (24 + length body) ++ checksum ++ to_be_bytes w16 h.autype ++ authentication ++ body

-- the checksum that is given, else the one that is computed; the authentication isn't summed
abbrev pub checksum_of : Header → List ℕ → List ℕ → List ℕ
checksum_of h [] body = packet_checksum (packet_with h (0 ∷ 0 ∷ []) [] body)
checksum_of h (octet ∷ octets) body = octet ∷ octets

-- a packet after the octets so far, where its length has two octets; `ws` are the words after it
unfoldable pub packet_onto : List ℕ → Header → List ℕ → List ℕ → List ℕ → List (List ℕ) → Result (List ℕ × List (List ℕ)) WordFault
packet_onto out h checksum authentication body ws =
    if nat_lt 65511 (length body) then faulty ws why.Long
    else Ok (out ++ packet_with h (checksum_of h checksum body) authentication body, ws)

-- ---- bodies

-- LS Update (section A.3.5): the number of LSAs, the LSAs, and octets after them
unfoldable pub update_body : List (List ℕ) → Result (List ℕ × List (List ℕ)) WordFault
update_body ws = do
  lsas ← lsas_within (2 ^ 20) 0 [] ws
  count ← optional_field (codes "count=") u32_of lsas.0.1 lsas.1
  rest ← optional_field (codes "rest=") (hex_onto []) [] count.1
  Ok (to_be_bytes w32 count.0 ++ lsas.0.0 ++ rest.0, rest.1)

-- the body of a packet: LSAs, or octets in hexadecimal
unfoldable pub body_of : PacketBody → List (List ℕ) → Result (List ℕ × List (List ℕ)) WordFault
body_of packet_body.Lsas ws = update_body ws
body_of packet_body.Octets ws = optional_field (codes "body=") (hex_onto []) [] ws

-- ---- packets

unfoldable pub packet : List ℕ → ℕ → PacketBody → List (List ℕ) → Result (List ℕ × List (List ℕ)) WordFault
packet out kind form ws = do
  router ← field (codes "router=") address_of ws
  area ← field (codes "area=") address_of router.1
  checksum ← optional_field (codes "checksum=") (sized_hex_onto 2 []) [] area.1
  autype ← optional_field (codes "autype=") u16_of 0 checksum.1
  authentication ← optional_field (codes "authentication=") (sized_hex_onto 8 []) (replicate 8 0) autype.1
  body ← body_of form authentication.1
  packet_onto out (record { kind = kind; router = router.0; area = area.0; autype = autype.0 }) checksum.0 authentication.0 body.0 body.1

-- a packet of any type, whose body is in hexadecimal
unfoldable pub any_packet : List ℕ → List (List ℕ) → Result (List ℕ × List (List ℕ)) WordFault
any_packet out ws = do
  kind ← value_word u8_of ws
  packet out kind.0 packet_body.Octets kind.1

-- a part of an `ospf` line
unfoldable pub ospf_part : List ℕ → List (List ℕ) → Result (List ℕ × List (List ℕ)) WordFault
ospf_part out [] = faulty [] why.Missing
ospf_part out (w ∷ ws) =
    if bytes_eq w (codes "ls-update") then packet out 4 packet_body.Lsas ws else (
    if bytes_eq w (codes "packet") then any_packet out ws else
    octets_part out (w ∷ ws))
