-- What is written, and the octets of the prefixes that are left after it, are those before and those of all prefixes.
use Rattle.std.proofs.Common.{◌≡◌, ◌≤◌, ◌+◌, ◌++◌, length, take, drop}
use Rattle.std.specs.List.{flat_map}
use Rattle.rcp_base.specs.IpPrefix.{prefix_octets}
use Rattle.bgp_msg.proofs.update.put_section.Given as goal

abbrev pub invariant-loop-prefix : goal.invariant-loop-prefix
invariant-loop-prefix g l =
    (l.at + length (flat_map prefix_octets (drop l.prefix-index l.prefixes)) ≡ l.initial.at + length (flat_map prefix_octets l.prefixes))
    × (take l.at (g.R.Room.octets l.out) ++ flat_map prefix_octets (drop l.prefix-index l.prefixes)
    ≡ take l.initial.at (g.R.Room.octets l.initial.out) ++ flat_map prefix_octets l.prefixes)
    × g.R.Room.is_place l.out l.at
    × (g.R.Room.size l.initial.out ≤ g.R.Room.size l.out)
