-- The octets of an AGGREGATOR: the AS number and the speaker (RFC 4271 section 4.3).
use Rattle.std.specs.Prelude.{ℕ, List, ◌++◌}
use Rattle.std.specs.Int.{w32, to_be_bytes}
use Rattle.path_attrs.specs.Width.{number_octets}
use Rattle.path_attrs.specs.declared.aggregator.Aggregator.{Aggregator}

abbrev pub aggregator_octets : Aggregator → List ℕ
aggregator_octets a = number_octets a.as_number ++ to_be_bytes w32 a.speaker
