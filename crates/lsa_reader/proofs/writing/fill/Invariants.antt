-- The header and the links so far stand in front.
use Rattle.std.proofs.Common.{◌≡◌, ◌+◌, ◌*◌, ◌++◌, take}
use Rattle.std.specs.List.{flat_map}
use Rattle.lsa_reader.specs.Writing.{header_octets, link_octets}
use Rattle.lsa_reader.proofs.writing.fill.Given as goal

abbrev pub invariant-loop-i : goal.invariant-loop-i
invariant-loop-i l = take (24 + 12 * l.i) l.out ≡ header_octets 0 0 l.lsa ++ flat_map link_octets (take l.i l.link-items)
