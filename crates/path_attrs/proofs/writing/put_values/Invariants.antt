use Rattle.std.proofs.Common.{◌≤◌, take}
use Rattle.path_attrs.specs.Appending.{Appends}
use Rattle.path_attrs.specs.Lists.{octets_of}
use Rattle.path_attrs.specs.Shown.{all_shown}
use Rattle.path_attrs.proofs.writing.put_values.Given as goal

abbrev pub invariant-loop-value : goal.invariant-loop-value
invariant-loop-value g l =
    Appends (g.R.Room.octets l.fn.out) l.fn.at (g.R.Room.octets l.out) l.end (octets_of (all_shown (take l.value-index l.values)))
    × g.R.Room.is_place l.out l.end
    × (g.R.Room.size l.fn.out ≤ g.R.Room.size l.out)
