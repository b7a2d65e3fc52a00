-- The octets of an AS_PATH (RFC 4271 section 4.3).
use Rattle.std.specs.Prelude.{ℕ, List, ◌∷◌, length}
use Rattle.std.specs.List.{flat_map}
use Rattle.rcp_model.specs.Attributes.{AS_SET, AS_SEQUENCE, Segment}
use Rattle.path_attrs.specs.Width.{number_octets}
use Rattle.path_attrs.specs.declared.path.SegmentKind.{SegmentKind}
use Rattle.path_attrs.specs.declared.path.SegmentKind.TheVariants.{AsSet, AsSequence}

abbrev pub kind_octet : SegmentKind → ℕ
kind_octet AsSet = AS_SET
kind_octet AsSequence = AS_SEQUENCE

-- type, count, and the numbers
abbrev pub segment_octets : Segment → List ℕ
segment_octets s = s.kind ∷ length s.numbers ∷ flat_map number_octets s.numbers

abbrev pub path_octets : List Segment → List ℕ
path_octets path = flat_map segment_octets path
