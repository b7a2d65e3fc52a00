use Rattle.std.proofs.Common.{◌≤◌, take}
use Rattle.std.specs.List.{flat_map}
use Rattle.path_attrs.specs.Appending.{Appends}
use Rattle.path_attrs.specs.Width.{number_octets}
use Rattle.path_attrs.proofs.path.put_numbers.Given as goal

abbrev pub invariant-loop-number : goal.invariant-loop-number
invariant-loop-number g l =
    Appends (g.R.Room.octets l.fn.out) l.fn.at (g.R.Room.octets l.out) l.end (flat_map number_octets (take l.number-index l.numbers))
    × g.R.Room.is_place l.out l.end
    × (g.R.Room.size l.fn.out ≤ g.R.Room.size l.out)
