-- UPDATE messages (RFC 4271 section 4.3): their sections, their first fault (section 6.3) and what they change,
-- how they are written, and what octets that were sent come to.
use Rattle.std.specs.Prelude.{ℕ, ◌+◌, Bool, not, ◌&&◌, ◌==◌, List, [], ◌∷◌, ◌++◌, length, take, drop, filter, filter_map, Option, Some, None, option_map, nat_le, if◌then◌else◌}
use Rattle.std.specs.List.{flat_map}
use Rattle.std.specs.Int.{Width, w16, to_be_bytes, from_be_bytes}
use Rattle.rcp_base.specs.IpPrefix.{IpPrefix, prefix_at, prefix_octets}
use Rattle.rcp_base.specs.Cut.{cut}
use Rattle.rcp_base.specs.Maps.{put_at, without, same_prefix, is_among}
use Rattle.rcp_model.specs.Messages.{FaultOf, fault, type_field, messages_in, message_octets}
use Rattle.rcp_model.specs.Attributes.{Attribute, attributes_in, attributes_fault, or_else}

-- ---- sections

pub record Sections : Type 0 where
  pub withdrawn : List ℕ
  pub attributes : List ℕ
  pub nlri : List ℕ

-- the number in the first two octets
abbrev pub leading_number : List ℕ → ℕ
leading_number octets = from_be_bytes w16 (take 2 octets)

-- the octets after a section, of which the first two are the length
abbrev pub after_section : List ℕ → List ℕ
after_section octets = drop (2 + leading_number octets) octets

abbrev pub section : List ℕ → List ℕ
section octets = take (leading_number octets) (drop 2 octets)

abbrev pub has_section : List ℕ → Bool
has_section octets = nat_le 2 (length octets) && nat_le (2 + leading_number octets) (length octets)

-- the three sections of a body: none where their lengths pass the message
unfoldable pub sections_of : List ℕ → Option Sections
sections_of body =
    if has_section body && has_section (after_section body)
    then Some (record { withdrawn = section body; attributes = section (after_section body); nlri = after_section (after_section body) })
    else None

-- ---- prefixes of a section

unfoldable pub prefix_size : List ℕ → Option ℕ
prefix_size octets = option_map (λ found. found.1) (prefix_at octets)

abbrev pub prefixes_in : List ℕ → List IpPrefix
prefixes_in octets = filter_map (λ piece. option_map (λ found. found.0) (prefix_at piece)) (cut prefix_size octets).0

-- 3/10 where a prefix is malformed (section 6.3: Invalid Network Field)
abbrev pub prefixes_fault : List ℕ → Option FaultOf
prefixes_fault octets = if length (cut prefix_size octets).1 == 0 then None else Some (fault 3 10 [])

-- ---- a whole UPDATE

-- the first fault of the body of an UPDATE
unfoldable pub update_fault : Width → List ℕ → Option FaultOf
update_fault width body = elim (sections_of body) [
  | None ↦ Some (fault 3 1 [])
  | Some sections ↦
      or_else (attributes_fault width (not (length sections.nlri == 0)) sections.attributes)
      (or_else (prefixes_fault sections.withdrawn) (prefixes_fault sections.nlri))
]

-- What the body of a faultless UPDATE changes, in order: first the withdrawn prefixes, without those that its NLRI announces, then the announced ones.
pub record Changes : Type 0 where
  pub withdrawn : List IpPrefix
  pub announced : List IpPrefix
  pub attributes : List Attribute

unfoldable pub changes_of : List ℕ → Changes
changes_of body = elim (sections_of body) [
  | None ↦ record { withdrawn = []; announced = []; attributes = [] }
  | Some sections ↦ record {
    withdrawn = filter (λ p. not (is_among (prefixes_in sections.nlri) p)) (prefixes_in sections.withdrawn);
    announced = prefixes_in sections.nlri;
    attributes = attributes_in sections.attributes;
  }
]

-- ---- writing

-- an UPDATE of these withdrawn prefixes, attribute octets and announced prefixes
unfoldable pub update_octets : List IpPrefix → List ℕ → List IpPrefix → List ℕ
update_octets withdrawn attributes announced =
    let gone = flat_map prefix_octets withdrawn in
    message_octets 2 (to_be_bytes w16 (length gone) ++ gone ++ to_be_bytes w16 (length attributes) ++ attributes ++ flat_map prefix_octets announced)

-- ---- replay

-- attribute octets at prefixes
abbrev pub Table : Type 0
Table = List (IpPrefix × List ℕ)

abbrev pub withdraw_all : List IpPrefix → Table → Table
withdraw_all [] table = table
withdraw_all (p ∷ ps) table = withdraw_all ps (without (same_prefix p) table)

abbrev pub announce_all : List ℕ → List IpPrefix → Table → Table
announce_all attributes [] table = table
announce_all attributes (p ∷ ps) table = announce_all attributes ps (put_at same_prefix p attributes table)

-- An UPDATE takes its withdrawn prefixes away, and then sets each of its NLRI to its attribute octets. Other messages change nothing.
unfoldable pub after_message : List ℕ → Table → Table
after_message message table = elim (sections_of (drop 19 message)) [
  | None ↦ table
  | Some sections ↦
      if type_field message == 2
      then announce_all sections.attributes (prefixes_in sections.nlri) (withdraw_all (prefixes_in sections.withdrawn) table)
      else table
]

unfoldable pub after_messages : List (List ℕ) → Table → Table
after_messages [] table = table
after_messages (message ∷ messages) table = after_messages messages (after_message message table)

-- the octets that were sent, replayed: their messages applied to an empty table
unfoldable pub replay : List ℕ → Table
replay octets = after_messages (messages_in octets) []
