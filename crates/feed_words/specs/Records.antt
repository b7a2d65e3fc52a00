-- The record that the words of a line stand for.
use Rattle.std.specs.Prelude.{ℕ, List, [], ◌∷◌, ◌++◌, length, Result, Ok, nat_lt, if◌then◌else◌, bytes_eq, codes}
use Rattle.std.specs.Int.{w16, w32, w64, to_be_bytes}
use Rattle.rcp_base.specs.Feed.{OutRecord, frame}
use Rattle.line_words.specs.declared.stop.Why.TheVariants as why
use Rattle.line_words.specs.declared.stop.WordFault.{WordFault}
use Rattle.feed_words.specs.declared.parts.Protocol.TheVariants as protocol
use Rattle.rcp_base.specs.Text.{number_of}
use Rattle.line_words.specs.Reading.{◌>>=◌, faulty, value_word, ended}
use Rattle.line_words.specs.Values.{u16_word, u32_word, u64_word, address_word, octet_word, hex_word}
use Rattle.line_words.specs.Fields.{field, code_onto}
use Rattle.feed_words.specs.Parts.{part_of, parts}

-- ---- records of fixed fields

-- E: a router's ID
unfoldable pub established : List (List ℕ) → Result OutRecord WordFault
established ws = do
  source ← u32_word ws
  id ← address_word source.1
  _ ← ended id.1
  Ok (record { kind = 69; connection = source.0; body = to_be_bytes w32 id.0 })

-- U
unfoldable pub connect : List (List ℕ) → Result OutRecord WordFault
connect ws = do
  source ← u32_word ws
  _ ← ended source.1
  Ok (record { kind = 85; connection = source.0; body = [] })

-- T: seconds
unfoldable pub time : List (List ℕ) → Result OutRecord WordFault
time ws = do
  seconds ← u64_word ws
  _ ← ended seconds.1
  Ok (record { kind = 84; connection = 0; body = to_be_bytes w64 seconds.0 })

-- W: a shard, and how many prefixes at most
unfoldable pub work : List (List ℕ) → Result OutRecord WordFault
work ws = do
  shard ← u16_word ws
  count ← u32_word shard.1
  _ ← ended count.1
  Ok (record { kind = 87; connection = 0; body = to_be_bytes w16 shard.0 ++ to_be_bytes w32 count.0 })

-- D, Z
unfoldable pub bare : ℕ → List (List ℕ) → Result OutRecord WordFault
bare kind ws = do
  _ ← ended ws
  Ok (record { kind = kind; connection = 0; body = [] })

-- Q: the place of a packet
unfoldable pub ospf_lost : List (List ℕ) → Result OutRecord WordFault
ospf_lost ws = do
  place ← u64_word ws
  _ ← ended place.1
  Ok (record { kind = 81; connection = 0; body = to_be_bytes w64 place.0 })

-- the end of a connection in an output: a fault, a NOTIFICATION that came, the end that the peer made, a seat that is taken
unfoldable pub reason : List (List ℕ) → Result (List ℕ × List (List ℕ)) WordFault
reason [] = Ok ([], [])
reason (w ∷ ws) =
    if bytes_eq w (codes "fault") then value_word (code_onto (1 ∷ [])) ws else (
    if bytes_eq w (codes "received") then value_word (code_onto (2 ∷ [])) ws else (
    if bytes_eq w (codes "peer-closed") then Ok (3 ∷ 0 ∷ 0 ∷ [], ws) else (
    if bytes_eq w (codes "seat-taken") then value_word (code_onto (4 ∷ [])) ws else
    faulty (w ∷ ws) why.Word)))

-- X, without a reason in a feed
unfoldable pub close : List (List ℕ) → Result OutRecord WordFault
close ws = do
  source ← u32_word ws
  body ← reason source.1
  _ ← ended body.1
  Ok (record { kind = 88; connection = source.0; body = body.0 })

-- S: connected routers, announced prefixes, UPDATEs so far
unfoldable pub summary : List (List ℕ) → Result OutRecord WordFault
summary ws = do
  routers ← field (codes "routers=") number_of ws
  prefixes ← field (codes "prefixes=") number_of routers.1
  updates ← field (codes "updates=") number_of prefixes.1
  _ ← ended updates.1
  Ok (record { kind = 83; connection = 0; body = to_be_bytes w64 routers.0 ++ to_be_bytes w64 prefixes.0 ++ to_be_bytes w64 updates.0 })

-- any other
unfoldable pub any_record : List (List ℕ) → Result OutRecord WordFault
any_record ws = do
  kind ← octet_word ws
  source ← u32_word kind.1
  body ← hex_word [] source.1
  _ ← ended body.1
  Ok (record { kind = kind.0; connection = source.0; body = body.0 })

-- ---- records of parts

-- B
unfoldable pub bgp : List (List ℕ) → Result OutRecord WordFault
bgp ws = do
  source ← u32_word ws
  body ← parts (part_of protocol.Bgp) source.1
  Ok (record { kind = 66; connection = source.0; body = body })

-- L
unfoldable pub ospf : List (List ℕ) → Result OutRecord WordFault
ospf ws = do
  body ← parts (part_of protocol.Ospf) ws
  Ok (record { kind = 76; connection = 0; body = body })

-- ---- all of them

-- the record of a first word and those after it: of a kind that feeds don't have, or of any kind
unfoldable pub rare_record : List ℕ → List (List ℕ) → Result OutRecord WordFault
rare_record word ws =
    if bytes_eq word (codes "ospf-lost") then ospf_lost ws else (
    if bytes_eq word (codes "summary") then summary ws else (
    if bytes_eq word (codes "record") then any_record ws else
    faulty (word ∷ ws) why.Word))

-- of the platform
unfoldable pub platform_record : List ℕ → List (List ℕ) → Result OutRecord WordFault
platform_record word ws =
    if bytes_eq word (codes "ospf") then ospf ws else (
    if bytes_eq word (codes "time") then time ws else (
    if bytes_eq word (codes "work") then work ws else (
    if bytes_eq word (codes "drain") then bare 68 ws else (
    if bytes_eq word (codes "end") then bare 90 ws else
    rare_record word ws))))

-- or of a connection
unfoldable pub record_of : List ℕ → List (List ℕ) → Result OutRecord WordFault
record_of word ws =
    if bytes_eq word (codes "established") then established ws else (
    if bytes_eq word (codes "connect") then connect ws else (
    if bytes_eq word (codes "bgp") then bgp ws else (
    if bytes_eq word (codes "close") then close ws else
    platform_record word ws)))

-- a body has at most 65,536 octets
abbrev pub within_length : List (List ℕ) → OutRecord → Result OutRecord WordFault
within_length all item = if nat_lt 65536 (length item.body) then faulty all why.Long else Ok item

unfoldable pub fitting_record : List ℕ → List (List ℕ) → Result OutRecord WordFault
fitting_record word ws = do
  item ← record_of word ws
  within_length (word ∷ ws) item

abbrev pub octets_of_record : OutRecord → List ℕ
octets_of_record item = frame item.kind item.connection item.body

-- the octets of a line of words: of a record, or of `octets`
unfoldable pub words_octets : List ℕ → List (List ℕ) → Result (List ℕ) WordFault
words_octets word ws =
    if bytes_eq word (codes "octets") then (do
      octets ← hex_word [] ws
      _ ← ended octets.1
      Ok octets.0)
    else (do
      item ← fitting_record word ws
      Ok (octets_of_record item))
