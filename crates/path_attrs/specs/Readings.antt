-- What reading attributes gives: those that are sent on, or the first fault.
use Rattle.std.specs.Prelude.{◌≡◌, ℕ, ◌≤◌, length, Bool, true, false, slice_index, slice_index_or, slice_set, List, [], ◌∷◌, take, drop, map, filter, ◌==◌, if◌then◌else◌, Option, Some, None}
use Rattle.bgp_fault.specs.declared.Data.{Data}
use Rattle.bgp_fault.specs.declared.Data.TheVariants.{None as NoData, Span}
use Rattle.bgp_fault.specs.declared.Fault.{Fault}
use Rattle.rcp_model.specs.Attributes.{Attribute, ORIGIN, AS_PATH, NEXT_HOP, attribute_of, attribute_size, attributes_in, value_place, canonical_octets, is_recognised, is_optional, has_other_category, has_other_length, has_faulty_value, is_kept, written, insert_by_type, by_type, number_width}
use Rattle.path_attrs.specs.Refusals.{malformed_path, update_fault}

-- of these attributes those that are sent on, with their flags
abbrev pub passed_on : List Attribute → List Attribute
passed_on attributes = map written (filter is_kept attributes)

-- the same by rising type
abbrev pub sent_on : List Attribute → List Attribute
sent_on attributes = by_type (passed_on attributes)

-- what reading faultless octets gives
abbrev pub read_of : List ℕ → List Attribute
read_of octets = sent_on (attributes_in octets)

-- what is written of it
abbrev pub written_of : List ℕ → List ℕ
written_of octets = canonical_octets (read_of octets)

-- the fault of a faulty value, by type
abbrev pub faulty_value : ℕ → Data → Fault
faulty_value kind span =
    if kind == ORIGIN then update_fault 6 span else (
    if kind == AS_PATH then malformed_path else (
    if kind == NEXT_HOP then update_fault 8 span else update_fault 9 span))

-- The first fault of an attribute by itself, its span being that of the whole attribute.
abbrev pub own_fault : Attribute → Data → Option Fault
own_fault a span =
    if is_recognised a.kind
    then (if has_other_category a then Some (update_fault 4 span) else (
    if has_other_length number_width a then Some (update_fault 5 span) else (
    if has_faulty_value number_width a then Some (faulty_value a.kind span) else None)))
    else (if is_optional a.flags then None else Some (update_fault 2 span))

-- the whole attribute of so many octets at a place
abbrev pub piece_at : List ℕ → ℕ → ℕ → List ℕ
piece_at body place len = take len (drop place body)

-- the fault of a list of attributes that isn't whole, or has a type twice
abbrev pub malformed_list : Fault
malformed_list = update_fault 1 NoData

-- The first fault of what stands at a place, after attributes of the types marked in `seen`.
abbrev pub next_fault : List ℕ → ℕ → List Bool → Option Fault
next_fault body place seen = elim (attribute_size (drop place body)) [
  | None ↦ Some malformed_list
  | Some len ↦
      if slice_index_or seen (slice_index (piece_at body place len) 1) false
      then Some malformed_list
      else own_fault (attribute_of (piece_at body place len)) (Span place len)
]

-- what stands at a place is this whole attribute, by itself without fault, and its type is marked
pub record IsNext (body : List ℕ) (place : ℕ) (before after : List Bool) (piece : List ℕ) : Type 0 where
  pub whole : attribute_size (drop place body) ≡ Some (length piece)
  pub taken : piece ≡ piece_at body place (length piece)
  pub marked : after ≡ slice_set before (slice_index piece 1) true
  pub long : 3 ≤ length piece
  pub header : value_place piece ≤ length piece
  pub faultless : own_fault (attribute_of piece) NoData ≡ None

-- attributes put in their places, the last one first
abbrev pub all_inserted : List Attribute → List Attribute → List Attribute
all_inserted [] attributes = attributes
all_inserted (a ∷ more) attributes = insert_by_type a (all_inserted more attributes)
