-- Links of a router LSA as words (RFC 2328 section A.4.2).
use Rattle.std.specs.Prelude.{ℕ, ◌/◌, ◌%◌, ◌==◌, List, [], ◌∷◌, ◌++◌, length, drop, Option, Some, None, option_map, option_and_then, nat_eq, nat_lt, if◌then◌else◌, bytes_eq, codes}
use Rattle.std.specs.List.{starts_with}
use Rattle.std.specs.Int.{w16, w32, to_be_bytes}
use Rattle.rcp_base.specs.Text.{address_of}
use Rattle.line_words.specs.Words.{hex_onto}
use Rattle.line_words.specs.Fields.{halves, split_at_first, u8_of, u16_of}
use Rattle.ospf_words.specs.declared.links.Ends.{Ends}

-- `link-` and a type
abbrev pub numbered : List ℕ → Option ℕ
numbered name = if starts_with nat_eq name (codes "link-") then u8_of (drop 5 name) else None

-- the type of a link by its name
unfoldable pub link_type : List ℕ → Option ℕ
link_type name =
    if bytes_eq name (codes "point-to-point") then Some 1 else (
    if bytes_eq name (codes "transit") then Some 2 else (
    if bytes_eq name (codes "stub") then Some 3 else (
    if bytes_eq name (codes "virtual") then Some 4 else numbered name)))

-- the Link Data, which may be absent where it is 0
abbrev pub link_data : Option (List ℕ) → Option ℕ
link_data None = Some 0
link_data (Some text) = address_of text

-- the Link ID and the Link Data after `@`
abbrev pub ends_of : List ℕ → Option Ends
ends_of text = option_and_then (λ id. option_map (λ link. record { id = id; link_data = link }) (link_data (split_at_first 64 text).1)) (address_of (split_at_first 64 text).0)

-- the octets of TOS metrics, which may be absent
abbrev pub tos_octets : Option (List ℕ) → Option (List ℕ)
tos_octets None = Some []
tos_octets (Some text) = hex_onto [] text

-- Link ID, Link Data, type, the number of TOS metrics of four octets each, metric, and the TOS metrics
unfoldable pub link_octets : List ℕ → ℕ → Ends → ℕ → List ℕ → Option (List ℕ)
link_octets out kind ends metric tos =
    if nat_lt 1020 (length tos) then None else (
    if length tos % 4 == 0 then Some (out ++ to_be_bytes w32 ends.id ++ to_be_bytes w32 ends.link_data ++ kind ∷ length tos / 4 ∷ to_be_bytes w16 metric ++ tos)
    else None)

-- the metric, and TOS metrics after `+`
abbrev pub costs_onto : List ℕ → ℕ → Ends → List ℕ → Option (List ℕ)
costs_onto out kind ends text =
    option_and_then (λ metric. option_and_then (link_octets out kind ends metric) (tos_octets (split_at_first 43 text).1)) (u16_of (split_at_first 43 text).0)

abbrev pub link_of_halves : List ℕ → ℕ → List ℕ × List ℕ → Option (List ℕ)
link_of_halves out kind text = option_and_then (λ ends. costs_onto out kind ends text.1) (ends_of text.0)

-- the ends and the costs, with a colon between them
unfoldable pub link_value_onto : List ℕ → ℕ → List ℕ → Option (List ℕ)
link_value_onto out kind text = option_and_then (link_of_halves out kind) (halves 58 text)

abbrev pub named_link_onto : List ℕ → List ℕ × List ℕ → Option (Option (List ℕ))
named_link_onto out word = option_map (λ kind. link_value_onto out kind word.1) (link_type word.0)

-- The octets of a list and those of a link's word. None where it isn't one, and none within where it can't be read.
unfoldable pub link_onto : List ℕ → List ℕ → Option (Option (List ℕ))
link_onto out word = option_and_then (named_link_onto out) (halves 61 word)
