use Rattle.std.proofs.Common.{◌≤◌, take}
use Rattle.std.specs.List.{flat_map}
use Rattle.path_attrs.specs.Appending.{Appends}
use Rattle.path_attrs.specs.Segments.{segment_octets}
use Rattle.path_attrs.proofs.path.put_segments.Given as goal

abbrev pub invariant-loop-segment : goal.invariant-loop-segment
invariant-loop-segment g l =
    Appends (g.R.Room.octets l.fn.out) l.fn.at (g.R.Room.octets l.out) l.end (flat_map segment_octets (take l.segment-index l.segments))
    × g.R.Room.is_place l.out l.end
    × (g.R.Room.size l.fn.out ≤ g.R.Room.size l.out)
