-- What is counted and the octets of the prefixes that are left are those of all.
use Rattle.std.proofs.Common.{◌≡◌, ◌+◌, ◌≤◌, length, drop}
use Rattle.std.specs.List.{flat_map}
use Rattle.rcp_base.specs.IpPrefix.{prefix_octets}
use Rattle.bgp_msg.proofs.update.section_len.Given as goal

abbrev pub invariant-loop-prefix : goal.invariant-loop-prefix
invariant-loop-prefix l =
    (l.count ≤ 4096)
    × (l.count + length (flat_map prefix_octets (drop l.prefix-index l.prefixes)) ≡ length (flat_map prefix_octets l.prefixes))
