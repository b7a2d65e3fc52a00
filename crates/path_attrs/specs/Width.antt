-- An AS number in AS_PATH and AGGREGATOR.
use Rattle.std.specs.Prelude.{ℕ, List}
use Rattle.std.specs.Int.{to_be_bytes}
use Rattle.rcp_model.specs.Attributes.{number_width}

abbrev pub number_octets : ℕ → List ℕ
number_octets n = to_be_bytes number_width n
