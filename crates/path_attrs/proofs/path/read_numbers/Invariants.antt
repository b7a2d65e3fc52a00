use Rattle.std.proofs.Common.{◌≡◌, ◌%◌, ◌++◌, length}
use Rattle.std.specs.Int.{byte_len}
use Rattle.std.specs.List.{flat_map}
use Rattle.rcp_model.specs.Attributes.{numbers_in, number_width}
use Rattle.path_attrs.specs.Width.{number_octets}
use Rattle.path_attrs.proofs.path.read_numbers.Given as goal

abbrev pub invariant-loop-number : goal.invariant-loop-number
invariant-loop-number l = record {
  spelled : flat_map number_octets l.numbers.items ++ l.rest ≡ l.octets;
  are_read : numbers_in number_width l.octets ≡ l.numbers.items ++ numbers_in number_width l.rest;
  whole : length l.rest % byte_len number_width ≡ 0;
}

abbrev pub decreases-loop-number : goal.decreases-loop-number
decreases-loop-number l = length l.rest
