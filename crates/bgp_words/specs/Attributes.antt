-- Path attributes as words: a name, flags where they aren't the usual ones, and a value.
use Rattle.std.specs.Prelude.{ℕ, ◌+◌, ◌-◌, ◌/◌, ◌%◌, ◌^◌, List, [], ◌∷◌, ◌++◌, length, take, drop, slice_index, Option, Some, None, option_map, option_and_then, ◌&&◌, ◌==◌, nat_eq, nat_lt, if◌then◌else◌, bytes_eq, codes, count_by}
use Rattle.std.specs.List.{starts_with}
use Rattle.std.specs.Int.{w16, w32, to_be_bytes}
use Rattle.rcp_base.specs.IpPrefix.{octets_for}
use Rattle.rcp_base.specs.Text.{number_of, address_of}
use Rattle.line_words.specs.Words.{below, hex_digit, of_two_digits, hex_onto}
use Rattle.bgp_words.specs.declared.attributes.AttributeKind.{AttributeKind}
use Rattle.bgp_words.specs.declared.attributes.Format.{Format}
use Rattle.bgp_words.specs.declared.attributes.Format.TheVariants as format
use Rattle.line_words.specs.Lists.{list_onto}
use Rattle.line_words.specs.Fields.{halves, split_at_first, u8_of, u16_of}

-- ---- values

abbrev pub u16_onto : List ℕ → List ℕ → Option (List ℕ)
u16_onto out text = option_map (λ n. out ++ to_be_bytes w16 n) (u16_of text)

abbrev pub u32_onto : List ℕ → List ℕ → Option (List ℕ)
u32_onto out text = option_map (λ n. out ++ to_be_bytes w32 n) (below (2 ^ 32) (number_of text))

abbrev pub address_onto : List ℕ → List ℕ → Option (List ℕ)
address_onto out text = option_map (λ a. out ++ to_be_bytes w32 a) (address_of text)

-- a prefix (RFC 4271 4.3): its length, and so many octets of its address as hold the length
abbrev pub prefix_of_halves : List ℕ → List ℕ × List ℕ → Option (List ℕ)
prefix_of_halves out text = option_and_then (λ a. option_map (λ l. out ++ (l ∷ take (octets_for l) (to_be_bytes w32 a))) (below 33 (number_of text.1))) (address_of text.0)

abbrev pub named_prefix_onto : List ℕ → List ℕ → Option (List ℕ)
named_prefix_onto out text = option_and_then (prefix_of_halves out) (halves 47 text)

-- or octets in hexadecimal
unfoldable pub prefix_onto : List ℕ → List ℕ → Option (List ℕ)
prefix_onto out text = if starts_with nat_eq text (codes "0x") then hex_onto out text else named_prefix_onto out text

abbrev pub pair_of_halves : List ℕ → List ℕ × List ℕ → Option (List ℕ)
pair_of_halves out text = option_and_then (λ a. option_map (λ b. out ++ to_be_bytes w16 a ++ to_be_bytes w16 b) (u16_of text.1)) (u16_of text.0)

-- a community: two numbers (RFC 1997)
abbrev pub community_onto : List ℕ → List ℕ → Option (List ℕ)
community_onto out text = option_and_then (pair_of_halves out) (halves 58 text)

abbrev pub origin_onto : List ℕ → List ℕ → Option (List ℕ)
origin_onto out text =
    if bytes_eq text (codes "igp") then Some (out ++ 0 ∷ []) else (
    if bytes_eq text (codes "egp") then Some (out ++ 1 ∷ []) else (
    if bytes_eq text (codes "incomplete") then Some (out ++ 2 ∷ []) else None))

-- what stands between two brackets
abbrev pub enclosed : ℕ → ℕ → List ℕ → Option (List ℕ)
enclosed first last text =
    if nat_lt (length text) 2 then None else (
    if slice_index text 0 == first && slice_index text (length text - 1) == last then Some (take (length text - 1 - 1) (drop 1 text)) else None)

-- a segment of a path: its type, how many numbers it has, and the numbers
abbrev pub segment_of : (List ℕ → List ℕ → Option (List ℕ)) → ℕ → List ℕ → List ℕ → Option (List ℕ)
segment_of number kind out text =
    if nat_lt 254 (count_by (λ c. c == 44) text) then None
    else list_onto number 44 (out ++ kind ∷ (count_by (λ c. c == 44) text + 1) ∷ []) text

-- a set stands in braces
unfoldable pub segment_onto : (List ℕ → List ℕ → Option (List ℕ)) → List ℕ → List ℕ → Option (List ℕ)
segment_onto number out text = elim (enclosed 123 125 text) [
  | Some set ↦ segment_of number 1 out set
  | None ↦ segment_of number 2 out text
]

-- segments with `/` between them; `-` is the path of none
unfoldable pub path_onto : (List ℕ → List ℕ → Option (List ℕ)) → List ℕ → List ℕ → Option (List ℕ)
path_onto number out text = if bytes_eq text (codes "-") then Some out else list_onto (segment_onto number) 47 out text

unfoldable pub named_value_onto : Format → List ℕ → List ℕ → Option (List ℕ)
named_value_onto format.Origin out text = origin_onto out text
named_value_onto format.Path2 out text = path_onto u16_onto out text
named_value_onto format.Path4 out text = path_onto u32_onto out text
named_value_onto format.Address out text = address_onto out text
named_value_onto format.Number out text = u32_onto out text
named_value_onto format.Communities out text = list_onto community_onto 44 out text
named_value_onto format.Addresses out text = list_onto address_onto 44 out text
named_value_onto format.Octets out text = None

-- every value may be in hexadecimal
unfoldable pub value_onto : Format → List ℕ → List ℕ → Option (List ℕ)
value_onto form out text = if starts_with nat_eq text (codes "0x") then hex_onto out text else named_value_onto form out text

-- ---- names

abbrev pub attribute : ℕ → ℕ → Format → AttributeKind
attribute code flags form = record { code = code; flags = flags; format = form }

-- the well-known ones (RFC 4271 5.1)
unfoldable pub well_known : List ℕ → Option AttributeKind
well_known name =
    if bytes_eq name (codes "origin") then Some (attribute 1 64 format.Origin) else (
    if bytes_eq name (codes "path") then Some (attribute 2 64 format.Path2) else (
    if bytes_eq name (codes "path4") then Some (attribute 2 64 format.Path4) else (
    if bytes_eq name (codes "next-hop") then Some (attribute 3 64 format.Address) else (
    if bytes_eq name (codes "local-pref") then Some (attribute 5 64 format.Number) else (
    if bytes_eq name (codes "atomic-aggregate") then Some (attribute 6 64 format.Octets) else None)))))

-- optional ones (RFC 4271 5.1, RFC 1997, RFC 4456)
unfoldable pub optional : List ℕ → Option AttributeKind
optional name =
    if bytes_eq name (codes "med") then Some (attribute 4 128 format.Number) else (
    if bytes_eq name (codes "community") then Some (attribute 8 192 format.Communities) else (
    if bytes_eq name (codes "originator-id") then Some (attribute 9 128 format.Address) else (
    if bytes_eq name (codes "cluster-list") then Some (attribute 10 128 format.Addresses) else None)))

-- `attr-` and a type: an optional transitive one whose value is in hexadecimal
abbrev pub numbered : List ℕ → Option AttributeKind
numbered name = if starts_with nat_eq name (codes "attr-") then option_map (λ n. attribute n 192 format.Octets) (u8_of (drop 5 name)) else None

unfoldable pub kind_of_name : List ℕ → Option AttributeKind
kind_of_name name = elim (well_known name) [
  | Some kind ↦ Some kind
  | None ↦ elim (optional name) [
    | Some kind ↦ Some kind
    | None ↦ numbered name
  ]
]

-- ---- a whole attribute

-- flags, type, length and value; the length has two octets where flag 10 hexadecimal is set
abbrev pub long_attribute : List ℕ → ℕ → ℕ → List ℕ → Option (List ℕ)
long_attribute out flags code value = if nat_lt 65535 (length value) then None else Some (out ++ (flags ∷ code ∷ to_be_bytes w16 (length value) ++ value))

abbrev pub short_attribute : List ℕ → ℕ → ℕ → List ℕ → Option (List ℕ)
short_attribute out flags code value = if nat_lt 255 (length value) then None else Some (out ++ (flags ∷ code ∷ length value ∷ value))

-- with these flags
unfoldable pub flagged_attribute : List ℕ → ℕ → ℕ → List ℕ → Option (List ℕ)
flagged_attribute out flags code value = if flags / 16 % 2 == 1 then long_attribute out flags code value else short_attribute out flags code value

-- with the usual ones: flag 10 where the value needs it
unfoldable pub usual_attribute : List ℕ → ℕ → ℕ → List ℕ → Option (List ℕ)
usual_attribute out flags code value = if nat_lt 255 (length value) then long_attribute out (flags + 16) code value else short_attribute out flags code value

-- the value of an attribute, which may be absent where it is empty
abbrev pub value_of : AttributeKind → Option (List ℕ) → Option (List ℕ)
value_of kind None = Some []
value_of kind (Some text) = value_onto kind.format [] text

abbrev pub flags_of : List ℕ → Option ℕ
flags_of (c ∷ d ∷ []) = of_two_digits (hex_digit c) (hex_digit d)
flags_of text = None

unfoldable pub headed_attribute : List ℕ → AttributeKind → Option (List ℕ) → List ℕ → Option (List ℕ)
headed_attribute out kind None value = usual_attribute out kind.flags kind.code value
headed_attribute out kind (Some text) value = option_and_then (λ flags. flagged_attribute out flags kind.code value) (flags_of text)

-- The octets of a list and those of an attribute's word: a name with flags after a slash, and a value after an equals sign.
-- None where it isn't one, and none within where it can't be read.
unfoldable pub attribute_onto : List ℕ → List ℕ → Option (Option (List ℕ))
attribute_onto out word =
    let head = split_at_first 61 word in
    let name = split_at_first 47 head.0 in
    option_map (λ kind. option_and_then (headed_attribute out kind name.1) (value_of kind head.1)) (kind_of_name name.0)
