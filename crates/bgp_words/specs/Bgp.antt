-- BGP messages as parts of a line.
use Rattle.std.specs.Prelude.{ℕ, ◌+◌, ◌^◌, List, [], ◌∷◌, ◌++◌, length, replicate, Option, Result, Ok, nat_lt, if◌then◌else◌, bytes_eq, codes}
use Rattle.std.specs.Int.{w16, w32, to_be_bytes}
use Rattle.rcp_base.specs.Text.{address_of}
use Rattle.line_words.specs.declared.stop.WordFault.{WordFault}
use Rattle.line_words.specs.declared.stop.Why.TheVariants as why
use Rattle.line_words.specs.Reading.{◌>>=◌, faulty, value_word}
use Rattle.line_words.specs.Words.{hex_onto}
use Rattle.line_words.specs.Values.{octets_part}
use Rattle.line_words.specs.Lists.{list_onto, words_within}
use Rattle.line_words.specs.Fields.{field, optional_field, u8_of, u16_of, code_onto}
use Rattle.bgp_words.specs.Attributes.{prefix_onto, attribute_onto}
use Rattle.bgp_words.specs.Capabilities.{parameter_onto}

-- a marker, a length, a type and a body (RFC 4271 4.1)
abbrev pub message : ℕ → List ℕ → List ℕ
message kind body = replicate 16 255 ++ to_be_bytes w16 (19 + length body) ++ kind ∷ body

-- a message after the octets so far, where its length has two octets; `ws` are the words after it
abbrev pub message_onto : List ℕ → ℕ → List ℕ → List (List ℕ) → Result (List ℕ × List (List ℕ)) WordFault
message_onto out kind body ws = if nat_lt 65516 (length body) then faulty ws why.Long else Ok (out ++ message kind body, ws)

abbrev pub sections : List ℕ → List ℕ → List ℕ → List ℕ
sections withdrawn attributes nlri = to_be_bytes w16 (length withdrawn) ++ withdrawn ++ to_be_bytes w16 (length attributes) ++ attributes ++ nlri

-- UPDATE (RFC 4271 4.3)
abbrev pub update_onto : List ℕ → List ℕ → List ℕ → List ℕ → List (List ℕ) → Result (List ℕ × List (List ℕ)) WordFault
update_onto out withdrawn attributes nlri ws =
    if nat_lt 65512 (length withdrawn + length attributes + length nlri) then faulty ws why.Long
    else Ok (out ++ message 2 (sections withdrawn attributes nlri), ws)

abbrev pub prefixes : List ℕ → Option (List ℕ)
prefixes text = list_onto prefix_onto 44 [] text

unfoldable pub update : List ℕ → List (List ℕ) → Result (List ℕ × List (List ℕ)) WordFault
update out ws = do
  withdrawn ← optional_field (codes "withdrawn=") prefixes [] ws
  attributes ← words_within attribute_onto (2 ^ 20) [] withdrawn.1
  all ← optional_field (codes "rest=") (hex_onto attributes.0) attributes.0 attributes.1
  nlri ← optional_field (codes "nlri=") prefixes [] all.1
  update_onto out withdrawn.0 all.0 nlri.0 nlri.1

-- OPEN (RFC 4271 4.2): version, AS number, hold time and BGP Identifier
unfoldable pub open_fields : List (List ℕ) → Result (List ℕ × List (List ℕ)) WordFault
open_fields ws = do
  number ← field (codes "as=") u16_of ws
  hold ← field (codes "hold=") u16_of number.1
  id ← field (codes "id=") address_of hold.1
  version ← optional_field (codes "version=") u8_of 4 id.1
  Ok (version.0 ∷ to_be_bytes w16 number.0 ++ to_be_bytes w16 hold.0 ++ to_be_bytes w32 id.0, version.1)

-- the length of the parameters has one octet
abbrev pub counted_onto : List ℕ → ℕ → List ℕ → List (List ℕ) → Result (List ℕ × List (List ℕ)) WordFault
counted_onto out count octets ws = if nat_lt 255 count then faulty ws why.Long else Ok (out ++ count ∷ octets, ws)

-- its optional parameters, and octets after them
unfoldable pub parameters_onto : List ℕ → List (List ℕ) → Result (List ℕ × List (List ℕ)) WordFault
parameters_onto out ws = do
  parameters ← words_within parameter_onto (2 ^ 20) [] ws
  all ← optional_field (codes "rest=") (hex_onto parameters.0) parameters.0 parameters.1
  counted_onto out (length parameters.0) all.0 all.1

unfoldable pub open_message : List ℕ → List (List ℕ) → Result (List ℕ × List (List ℕ)) WordFault
open_message out ws = do
  head ← open_fields ws
  body ← parameters_onto head.0 head.1
  message_onto out 1 body.0 body.1

-- KEEPALIVE (RFC 4271 4.4)
abbrev pub keepalive : List ℕ → List (List ℕ) → Result (List ℕ × List (List ℕ)) WordFault
keepalive out ws = Ok (out ++ message 4 [], ws)

-- NOTIFICATION (RFC 4271 4.5): a code and a subcode, and data
unfoldable pub notification : List ℕ → List (List ℕ) → Result (List ℕ × List (List ℕ)) WordFault
notification out ws = do
  code ← value_word (code_onto []) ws
  body ← optional_field (codes "data=") (hex_onto code.0) code.0 code.1
  message_onto out 3 body.0 body.1

-- a message of any type, its marker and length computed
unfoldable pub any_message : List ℕ → List (List ℕ) → Result (List ℕ × List (List ℕ)) WordFault
any_message out ws = do
  kind ← value_word u8_of ws
  body ← value_word (hex_onto []) kind.1
  message_onto out kind.0 body.0 body.1

-- a part of a `bgp` line
unfoldable pub bgp_part : List ℕ → List (List ℕ) → Result (List ℕ × List (List ℕ)) WordFault
bgp_part out [] = faulty [] why.Missing
bgp_part out (w ∷ ws) =
    if bytes_eq w (codes "update") then update out ws else (
    if bytes_eq w (codes "keepalive") then keepalive out ws else (
    if bytes_eq w (codes "open") then open_message out ws else (
    if bytes_eq w (codes "notification") then notification out ws else (
    if bytes_eq w (codes "message") then any_message out ws else
    octets_part out (w ∷ ws)))))
