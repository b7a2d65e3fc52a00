use Rattle.std.proofs.Common.{◌≡◌, length, take}
use Rattle.path_attrs.specs.Segments.{path_octets}
use Rattle.path_attrs.proofs.path.segments_len.Given as goal

abbrev pub invariant-loop-segment : goal.invariant-loop-segment
invariant-loop-segment l = l.len ≡ length (path_octets (take l.segment-index l.segments))
