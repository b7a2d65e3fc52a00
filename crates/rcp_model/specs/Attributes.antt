-- Path attributes (RFC 4271 sections 4.3 and 5, RFC 1997): how they are read, the first fault of a list of them
-- (section 6.3), and their canonical octets. AS numbers have a width, which is a parameter.
use Rattle.std.specs.Prelude.{ℕ, ◌+◌, ◌*◌, ◌/◌, ◌%◌, Bool, true, false, not, ◌&&◌, ◌||◌, ◌==◌, List, [], ◌∷◌, ◌++◌, length, take, drop, map, filter, slice_index, Option, Some, None, is_some, is_none, nat_lt, nat_le, if◌then◌else◌}
use Rattle.std.specs.List.{list_any, flat_map}
use Rattle.std.specs.Int.{Width, w16, byte_len, to_be_bytes, from_be_bytes}
use Rattle.rcp_base.specs.Cut.{cut}
use Rattle.rcp_base.specs.Checks.{first_failing}
use Rattle.rcp_model.specs.Messages.{FaultOf, fault, is_outside}

pub record Attribute : Type 0 where
  pub flags : ℕ
  pub kind : ℕ
  pub value : List ℕ

-- ---- types and flags

abbrev pub ORIGIN : ℕ
ORIGIN = 1

abbrev pub AS_PATH : ℕ
AS_PATH = 2

abbrev pub NEXT_HOP : ℕ
NEXT_HOP = 3

abbrev pub MULTI_EXIT_DISC : ℕ
MULTI_EXIT_DISC = 4

abbrev pub LOCAL_PREF : ℕ
LOCAL_PREF = 5

abbrev pub ATOMIC_AGGREGATE : ℕ
ATOMIC_AGGREGATE = 6

abbrev pub AGGREGATOR : ℕ
AGGREGATOR = 7

abbrev pub COMMUNITIES : ℕ
COMMUNITIES = 8

-- How wide an AS number is in AS_PATH and AGGREGATOR: two octets (section 4.3).
abbrev pub number_width : Width
number_width = w16

-- whether the flag of this weight is set
abbrev pub has_flag : ℕ → ℕ → Bool
has_flag weight flags = flags / weight % 2 == 1

abbrev pub is_optional : ℕ → Bool
is_optional flags = has_flag 128 flags

abbrev pub is_transitive : ℕ → Bool
is_transitive flags = has_flag 64 flags

abbrev pub is_partial : ℕ → Bool
is_partial flags = has_flag 32 flags

abbrev pub is_extended : ℕ → Bool
is_extended flags = has_flag 16 flags

-- ---- the recognised types

-- A recognised type: its optional and transitive flags, the length of its value where that is fixed, for a width of AS
-- numbers, and whether the partial flag is sent on as it was read.
pub record AttributeType : Type 0 where
  pub kind : ℕ
  pub category : ℕ
  pub fixed : Width → Option ℕ
  pub keeps_partial : Bool

-- the optional and transitive flags (section 4.3): transitive alone on what is well-known
abbrev well_known : ℕ
well_known = 64

abbrev optional : ℕ
optional = 128

abbrev optional_transitive : ℕ
optional_transitive = 192

-- a value of any length, of so many octets, or of an AS number and an address
abbrev any : Width → Option ℕ
any width = None

abbrev octets : ℕ → Width → Option ℕ
octets count width = Some count

abbrev number_and_address : Width → Option ℕ
number_and_address width = Some (byte_len width + 4)

abbrev row : ℕ → ℕ → (Width → Option ℕ) → Bool → AttributeType
row kind category fixed keeps_partial = record { kind = kind; category = category; fixed = fixed; keeps_partial = keeps_partial }

abbrev pub attribute_types : List AttributeType
attribute_types =
    row ORIGIN well_known (octets 1) false
    ∷ row AS_PATH well_known any false
    ∷ row NEXT_HOP well_known (octets 4) false
    ∷ row MULTI_EXIT_DISC optional (octets 4) false
    ∷ row LOCAL_PREF well_known (octets 4) false
    ∷ row ATOMIC_AGGREGATE well_known (octets 0) false
    ∷ row AGGREGATOR optional_transitive number_and_address true
    ∷ row COMMUNITIES optional_transitive any true
    ∷ []

-- what a row says of a type, or this where there is no row of it
abbrev pub in_row : {A : Type 0} → (AttributeType → A) → A → ℕ → List AttributeType → A
in_row says none kind [] = none
in_row says none kind (row ∷ rows) = if kind == row.kind then says row else in_row says none kind rows

abbrev pub is_recognised : ℕ → Bool
is_recognised kind = in_row (λ row. true) false kind attribute_types

-- the optional and transitive flags of a recognised type, as flags
abbrev pub category : ℕ → ℕ
category kind = in_row (λ row. row.category) 0 kind attribute_types

-- the length of a recognised type's value, where it is fixed
abbrev pub fixed_length : Width → ℕ → Option ℕ
fixed_length width kind = in_row (λ row. row.fixed width) None kind attribute_types

abbrev pub keeps_partial : ℕ → Bool
keeps_partial kind = in_row (λ row. row.keeps_partial) false kind attribute_types

-- ---- attributes in octets

-- how many octets stand before the value: flags, type, and the length in one octet or two
abbrev pub value_place : List ℕ → ℕ
value_place octets = if is_extended (slice_index octets 0) then 4 else 3

abbrev pub value_length : List ℕ → ℕ
value_length octets = if is_extended (slice_index octets 0) then from_be_bytes w16 (take 2 (drop 2 octets)) else slice_index octets 2

-- the length of the attribute in front, where it is whole
unfoldable pub attribute_size : List ℕ → Option ℕ
attribute_size octets =
    if nat_le (value_place octets) (length octets) && nat_le (value_place octets + value_length octets) (length octets)
    then Some (value_place octets + value_length octets)
    else None

-- the attribute that these octets are
abbrev pub attribute_of : List ℕ → Attribute
attribute_of piece = record { flags = slice_index piece 0; kind = slice_index piece 1; value = drop (value_place piece) piece }

abbrev pub attributes_in : List ℕ → List Attribute
attributes_in octets = map attribute_of (cut attribute_size octets).0

-- the value of the attribute of a type
abbrev pub value_of : ℕ → List Attribute → Option (List ℕ)
value_of kind [] = None
value_of kind (a ∷ attributes) = if a.kind == kind then Some a.value else value_of kind attributes

-- ---- AS_PATH (section 4.3)

abbrev pub AS_SET : ℕ
AS_SET = 1

abbrev pub AS_SEQUENCE : ℕ
AS_SEQUENCE = 2

pub record Segment : Type 0 where
  pub kind : ℕ
  pub numbers : List ℕ

-- the length of the segment in front, where it is whole: type, count, and so many numbers
unfoldable pub segment_size : Width → List ℕ → Option ℕ
segment_size width octets =
    if nat_le 2 (length octets) && nat_le (2 + slice_index octets 1 * byte_len width) (length octets)
    then Some (2 + slice_index octets 1 * byte_len width)
    else None

-- the length of the number in front
unfoldable pub number_size : Width → List ℕ → Option ℕ
number_size width octets = if nat_le (byte_len width) (length octets) then Some (byte_len width) else None

abbrev pub numbers_in : Width → List ℕ → List ℕ
numbers_in width octets = map (from_be_bytes width) (cut (number_size width) octets).0

abbrev pub segment_of : Width → List ℕ → Segment
segment_of width piece = record { kind = slice_index piece 0; numbers = numbers_in width (drop 2 piece) }

abbrev pub segments_in : Width → List ℕ → List Segment
segments_in width value = map (segment_of width) (cut (segment_size width) value).0

-- another type than AS_SET and AS_SEQUENCE, a count of 0, or an end within a segment
abbrev pub is_faulty_path : Width → List ℕ → Bool
is_faulty_path width value =
    list_any (λ piece. is_outside AS_SET AS_SEQUENCE (slice_index piece 0) || slice_index piece 1 == 0) (cut (segment_size width) value).0
    || not (length (cut (segment_size width) value).1 == 0)

-- ---- the first fault (section 6.3)

-- Whether the value of a recognised attribute of the right length is faulty.
abbrev pub has_faulty_value : Width → Attribute → Bool
has_faulty_value width a =
    if a.kind == ORIGIN then nat_lt 2 (slice_index a.value 0) else (
    if a.kind == AS_PATH then is_faulty_path width a.value else (
    if a.kind == NEXT_HOP then is_outside 1 223 (slice_index a.value 0) else (
    if a.kind == COMMUNITIES then not (length a.value % 4 == 0) else false)))

-- the fault of such a value
abbrev pub value_fault : Attribute → List ℕ → FaultOf
value_fault a piece =
    if a.kind == ORIGIN then fault 3 6 piece else (
    if a.kind == AS_PATH then fault 3 11 [] else (
    if a.kind == NEXT_HOP then fault 3 8 piece else fault 3 9 piece))

-- whether the optional and transitive flags are others than the type's
abbrev pub has_other_category : Attribute → Bool
has_other_category a = not (a.flags / 64 % 4 == category a.kind / 64)

abbrev pub has_other_length : Width → Attribute → Bool
has_other_length width a = elim (fixed_length width a.kind) [ None ↦ false | Some n ↦ not (length a.value == n) ]

-- The first fault of a whole attribute, its octets being `piece`, after attributes of the types `seen`.
unfoldable pub attribute_fault : Width → List ℕ → List ℕ → Option FaultOf
attribute_fault width seen piece =
    let a = attribute_of piece in
    first_failing (
    (list_any (λ kind. kind == a.kind) seen, fault 3 1 [])
    ∷ (not (is_recognised a.kind) && not (is_optional a.flags), fault 3 2 piece)
    ∷ (is_recognised a.kind && has_other_category a, fault 3 4 piece)
    ∷ (is_recognised a.kind && has_other_length width a, fault 3 5 piece)
    ∷ (is_recognised a.kind && has_faulty_value width a, value_fault a piece)
    ∷ [])

abbrev pub or_else : Option FaultOf → Option FaultOf → Option FaultOf
or_else None second = second
or_else (Some first) second = Some first

-- The first fault of whole attributes from the front, and then of what is left, which has to be nothing.
unfoldable pub list_fault : Width → List ℕ → List (List ℕ) → List ℕ → Option FaultOf
list_fault width seen [] rest = if length rest == 0 then None else Some (fault 3 1 [])
list_fault width seen (piece ∷ pieces) rest =
    or_else (attribute_fault width seen piece) (list_fault width (slice_index piece 1 ∷ seen) pieces rest)

-- where there is NLRI: the first that is missing of ORIGIN, AS_PATH and NEXT_HOP
abbrev pub missing_fault : List Attribute → Option FaultOf
missing_fault attributes =
    first_failing (
    (is_none (value_of ORIGIN attributes), fault 3 3 (ORIGIN ∷ []))
    ∷ (is_none (value_of AS_PATH attributes), fault 3 3 (AS_PATH ∷ []))
    ∷ (is_none (value_of NEXT_HOP attributes), fault 3 3 (NEXT_HOP ∷ []))
    ∷ [])

-- the first fault of the attributes of an UPDATE, with NLRI or without
unfoldable pub attributes_fault : Width → Bool → List ℕ → Option FaultOf
attributes_fault width nlri octets =
    or_else (list_fault width [] (cut attribute_size octets).0 (cut attribute_size octets).1)
    (if nlri then missing_fault (attributes_in octets) else None)

-- what a route needs (section 5): ORIGIN, AS_PATH and NEXT_HOP
abbrev pub has_route : List Attribute → Bool
has_route attributes = is_some (value_of ORIGIN attributes) && is_some (value_of AS_PATH attributes) && is_some (value_of NEXT_HOP attributes)

-- ---- canonical octets

-- what is sent on: what is recognised, and what is optional and transitive
abbrev pub is_kept : Attribute → Bool
is_kept a = is_recognised a.kind || is_optional a.flags && is_transitive a.flags

-- The flags that are written, without that of the length: partial as read where the type keeps it, always set on an
-- unrecognised type.
abbrev pub written_flags : Attribute → ℕ
written_flags a =
    if is_recognised a.kind
    then category a.kind + (if keeps_partial a.kind && is_partial a.flags then 32 else 0)
    else 224

abbrev pub written : Attribute → Attribute
written a = record a { flags = written_flags a }

-- an attribute put before the first of a greater type
abbrev pub insert_by_type : Attribute → List Attribute → List Attribute
insert_by_type a [] = a ∷ []
insert_by_type a (b ∷ bs) = if nat_lt b.kind a.kind then b ∷ insert_by_type a bs else a ∷ b ∷ bs

abbrev pub by_type : List Attribute → List Attribute
by_type [] = []
by_type (a ∷ attributes) = insert_by_type a (by_type attributes)

-- LOCAL_PREF where it is absent: 100
abbrev pub default_pref : Attribute
default_pref = record { flags = 64; kind = LOCAL_PREF; value = 0 ∷ 0 ∷ 0 ∷ 100 ∷ [] }

abbrev pub with_pref : List Attribute → List Attribute
with_pref attributes = if is_some (value_of LOCAL_PREF attributes) then attributes else default_pref ∷ attributes

-- the attributes that are written: rising types, LOCAL_PREF always among them
unfoldable pub canonical : List Attribute → List Attribute
canonical attributes = by_type (with_pref (map written (filter is_kept attributes)))

-- the octets of an attribute: the length in one octet where it fits, else in two and the flag set
unfoldable pub attribute_octets : Attribute → List ℕ
attribute_octets a =
    if nat_le (length a.value) 255
    then a.flags ∷ a.kind ∷ length a.value ∷ a.value
    else (a.flags + 16) ∷ a.kind ∷ (to_be_bytes w16 (length a.value) ++ a.value)

abbrev pub canonical_octets : List Attribute → List ℕ
canonical_octets attributes = flat_map attribute_octets (canonical attributes)
