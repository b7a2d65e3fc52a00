use Rattle.std.proofs.Common.{◌≡◌, ◌++◌, false, length}
use Rattle.rcp_model.specs.Attributes.{is_faulty_path, segments_in, number_width}
use Rattle.path_attrs.specs.Segments.{path_octets}
use Rattle.path_attrs.proofs.path.Path.read.Given as goal

abbrev pub invariant-loop-kind : goal.invariant-loop-kind
invariant-loop-kind l = record {
  spelled : path_octets l.segments.items ++ l.rest ≡ l.octets;
  are_read : segments_in number_width l.octets ≡ l.segments.items ++ segments_in number_width l.rest;
  faultless : is_faulty_path number_width l.rest ≡ false;
}

abbrev pub decreases-loop-kind : goal.decreases-loop-kind
decreases-loop-kind l = length l.rest
