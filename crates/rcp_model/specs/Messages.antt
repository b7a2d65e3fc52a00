-- BGP messages (RFC 4271 section 4): their headers, and the one reading of a list of octets as messages.
use Rattle.std.specs.Prelude.{◌≡◌, ◌≢◌, ℕ, ◌+◌, ◌<◌, ◌≤◌, Bool, not, ◌&&◌, ◌||◌, ◌==◌, ◌⊎◌, List, [], ◌∷◌, ◌++◌, length, take, drop, replicate, slice_index, Option, Some, None, is_none, nat_lt, nat_le, if◌then◌else◌, bytes_eq}
use Rattle.std.specs.List.{concat, AllByRecursion}
use Rattle.std.specs.Int.{w16, to_be_bytes, from_be_bytes}
use Rattle.rcp_base.specs.Checks.{first_failing}
use Rattle.rcp_base.specs.Cut.{cut}

-- a fault as a NOTIFICATION names it (section 4.5): error code, error subcode and data
pub record FaultOf : Type 0 where
  pub code : ℕ
  pub sub : ℕ
  pub content : List ℕ

abbrev pub fault : ℕ → ℕ → List ℕ → FaultOf
fault code sub content = record { code = code; sub = sub; content = content }

-- ---- the header (section 4.1): a marker, the length of the message and its type

abbrev pub marker : List ℕ
marker = replicate 16 255

abbrev pub has_marker : List ℕ → Bool
has_marker octets = bytes_eq (take 16 octets) marker

abbrev pub length_octets : List ℕ → List ℕ
length_octets octets = take 2 (drop 16 octets)

abbrev pub length_field : List ℕ → ℕ
length_field octets = from_be_bytes w16 (length_octets octets)

abbrev pub type_field : List ℕ → ℕ
type_field octets = slice_index octets 18

-- the lengths that a message of a type may have (sections 4.2 to 4.5)
abbrev pub least_length : ℕ → ℕ
least_length kind = if kind == 1 then 29 else (if kind == 2 then 23 else (if kind == 3 then 21 else 19))

abbrev pub greatest_length : ℕ → ℕ
greatest_length kind = if kind == 4 then 19 else 4096

abbrev pub is_outside : ℕ → ℕ → ℕ → Bool
is_outside low high n = nat_lt n low || nat_lt high n

-- the first fault of a header, of 19 octets at least (section 6.1)
unfoldable pub header_fault : List ℕ → Option FaultOf
header_fault octets =
    first_failing (
    (not (has_marker octets), fault 1 1 [])
    ∷ (is_outside 19 4096 (length_field octets), fault 1 2 (length_octets octets))
    ∷ (is_outside 1 4 (type_field octets), fault 1 3 (type_field octets ∷ []))
    ∷ (is_outside (least_length (type_field octets)) (greatest_length (type_field octets)) (length_field octets), fault 1 2 (length_octets octets))
    ∷ [])

-- ---- whole messages

-- the length of the message in front, where a whole one stands there
unfoldable pub message_size : List ℕ → Option ℕ
message_size octets =
    if nat_le 19 (length octets) && is_none (header_fault octets) && nat_le (length_field octets) (length octets)
    then Some (length_field octets)
    else None

-- a whole message: a faultless header, and exactly the octets of its length
pub record IsMessage (message : List ℕ) : Type 0 where
  pub has_header : 19 ≤ length message
  pub faultless : header_fault message ≡ None
  pub exact : length message ≡ length_field message

-- what is left: too short for a header, or with a faulty header, or less than the header's length
abbrev pub IsRest : List ℕ → Type 0
IsRest rest = (length rest < 19) ⊎ ((header_fault rest ≢ None) ⊎ ((header_fault rest ≡ None) × (length rest < length_field rest)))

-- the octets are these messages, and then the rest
pub record IsReading (octets : List ℕ) (messages : List (List ℕ)) (rest : List ℕ) : Type 0 where
  pub whole : octets ≡ concat messages ++ rest
  pub each : AllByRecursion IsMessage messages
  pub partial : IsRest rest

-- that reading, computed
abbrev pub messages_in : List ℕ → List (List ℕ)
messages_in octets = (cut message_size octets).0

abbrev pub rest_of : List ℕ → List ℕ
rest_of octets = (cut message_size octets).1

-- ---- writing

-- a message of a type with a body
abbrev pub message_octets : ℕ → List ℕ → List ℕ
message_octets kind body = marker ++ to_be_bytes w16 (19 + length body) ++ kind ∷ body

-- a NOTIFICATION (section 4.5) of a fault
abbrev pub notification_octets : FaultOf → List ℕ
notification_octets why = message_octets 3 (why.code ∷ why.sub ∷ why.content)
