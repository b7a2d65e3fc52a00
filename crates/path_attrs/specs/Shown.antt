-- The attribute that each value is (RFC 4271 sections 4.3 and 5, RFC 1997), with the flags that it is sent on with.
use Rattle.std.specs.Prelude.{ℕ, ◌+◌, Bool, List, [], ◌∷◌, map, nat_le, if◌then◌else◌}
use Rattle.std.specs.List.{flat_map}
use Rattle.std.specs.Int.{w16, w32, to_be_bytes}
use Rattle.rcp_model.specs.Attributes.{Attribute, ORIGIN, AS_PATH, NEXT_HOP, MULTI_EXIT_DISC, LOCAL_PREF, ATOMIC_AGGREGATE, AGGREGATOR, COMMUNITIES}
use Rattle.path_attrs.specs.Origins.{origin_octet}
use Rattle.path_attrs.specs.Segments.{path_octets}
use Rattle.path_attrs.specs.Aggregators.{aggregator_octets}
use Rattle.path_attrs.specs.declared.value.Value.{Value}
use Rattle.path_attrs.specs.declared.value.Value.TheVariants as values

-- the flags of an optional and transitive attribute
abbrev pub with_partial : Bool → ℕ
with_partial partial = 192 + (if partial then 32 else 0)

abbrev pub shown : Value → Attribute
shown (values.Origin origin) = record { flags = 64; kind = ORIGIN; value = origin_octet origin ∷ [] }
shown (values.AsPath path) = record { flags = 64; kind = AS_PATH; value = path_octets path }
shown (values.NextHop addr) = record { flags = 64; kind = NEXT_HOP; value = to_be_bytes w32 addr }
shown (values.MultiExitDisc n) = record { flags = 128; kind = MULTI_EXIT_DISC; value = to_be_bytes w32 n }
shown (values.LocalPref n) = record { flags = 64; kind = LOCAL_PREF; value = to_be_bytes w32 n }
shown values.AtomicAggregate = record { flags = 64; kind = ATOMIC_AGGREGATE; value = [] }
shown (values.Aggregator partial aggregator) = record { flags = with_partial partial; kind = AGGREGATOR; value = aggregator_octets aggregator }
shown (values.Communities partial numbers) = record { flags = with_partial partial; kind = COMMUNITIES; value = flat_map (to_be_bytes w32) numbers.items }
shown (values.Unrecognised other) = record { flags = 224; kind = other.kind; value = other.octets.items }

abbrev pub all_shown : List Value → List Attribute
all_shown vs = map shown vs

-- what stands before a value of so many octets: flags, type, and the length in one octet or two
abbrev pub header_octets : ℕ → ℕ → ℕ → List ℕ
header_octets flags kind len = if nat_le len 255 then flags ∷ kind ∷ len ∷ [] else (flags + 16) ∷ kind ∷ to_be_bytes w16 len
