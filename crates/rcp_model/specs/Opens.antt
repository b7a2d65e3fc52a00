-- OPEN messages (RFC 4271 section 4.2): their fields, their first fault (section 6.2), and how they are written.
use Rattle.std.specs.Prelude.{ℕ, ◌+◌, Bool, not, ◌&&◌, ◌||◌, ◌==◌, List, [], ◌∷◌, ◌++◌, length, take, drop, slice_index, Option, Some, None, nat_le, if◌then◌else◌}
use Rattle.std.specs.List.{list_any}
use Rattle.std.specs.Int.{w16, w32, to_be_bytes, from_be_bytes}
use Rattle.rcp_base.specs.Cut.{cut}
use Rattle.rcp_base.specs.Checks.{first_failing}
use Rattle.rcp_model.specs.Messages.{FaultOf, fault, message_octets}

-- what an OPEN offers: the sender's AS, the hold time in seconds, and the sender's BGP Identifier
pub record OpenFields : Type 0 where
  pub as_number : ℕ
  pub hold : ℕ
  pub id : ℕ

-- ---- the body: version, My Autonomous System, hold time, BGP Identifier, and optional parameters after their length

abbrev pub VERSION : ℕ
VERSION = 4

abbrev pub version_of : List ℕ → ℕ
version_of body = slice_index body 0

abbrev pub open_fields : List ℕ → OpenFields
open_fields body = record {
  as_number = from_be_bytes w16 (take 2 (drop 1 body));
  hold = from_be_bytes w16 (take 2 (drop 3 body));
  id = from_be_bytes w32 (take 4 (drop 5 body));
}

abbrev pub parameters_length : List ℕ → ℕ
parameters_length body = slice_index body 9

abbrev pub parameters_of : List ℕ → List ℕ
parameters_of body = drop 10 body

-- ---- optional parameters: a type, a length and a value

-- the type of the parameter that holds capabilities (RFC 5492)
abbrev pub CAPABILITIES : ℕ
CAPABILITIES = 2

-- the length of the parameter in front, where it is whole
unfoldable pub parameter_size : List ℕ → Option ℕ
parameter_size octets =
    if nat_le 2 (length octets) && nat_le (2 + slice_index octets 1) (length octets)
    then Some (2 + slice_index octets 1)
    else None

-- a parameter of another type than capabilities stands among the whole ones
abbrev pub has_unknown_parameter : List ℕ → Bool
has_unknown_parameter parameters = list_any (λ piece. not (slice_index piece 0 == CAPABILITIES)) (cut parameter_size parameters).0

-- the last parameter runs past the end
abbrev pub has_partial_parameter : List ℕ → Bool
has_partial_parameter parameters = not (length (cut parameter_size parameters).1 == 0)

-- ---- the first fault

-- a hold time is 0 or at least 3 seconds
abbrev pub is_short_hold : ℕ → Bool
is_short_hold hold = hold == 1 || hold == 2

-- The first fault of the body of an OPEN, of ten octets at least, where the AS has this number and these BGP Identifiers are known.
-- Parameters are read from the front, so that an unknown one is found before a last one that runs past the end.
unfoldable pub open_fault : (ℕ → Bool) → ℕ → List ℕ → Option FaultOf
open_fault knows as_number body =
    first_failing (
    (not (version_of body == VERSION), fault 2 1 (0 ∷ VERSION ∷ []))
    ∷ (not ((open_fields body).as_number == as_number), fault 2 2 [])
    ∷ (is_short_hold (open_fields body).hold, fault 2 6 [])
    ∷ (not (knows (open_fields body).id), fault 2 3 [])
    ∷ (not (parameters_length body == length (parameters_of body)), fault 2 0 [])
    ∷ (has_unknown_parameter (parameters_of body), fault 2 4 [])
    ∷ (has_partial_parameter (parameters_of body), fault 2 0 [])
    ∷ [])

-- ---- writing

-- an OPEN without parameters
abbrev pub open_octets : OpenFields → List ℕ
open_octets fields =
    message_octets 1 (VERSION ∷ (to_be_bytes w16 fields.as_number ++ to_be_bytes w16 fields.hold ++ to_be_bytes w32 fields.id ++ 0 ∷ []))
