-- The prefixes so far are the front of one piece.
use Rattle.std.proofs.Common.{◌≡◌, ◌+◌}
use Rattle.update_pack.specs.Values.{value_in, octet_count}
use Rattle.update_pack.proofs.FillLemmas.{IsFront}
use Rattle.update_pack.proofs.filling.front.Given as goal

abbrev pub invariant-loop-count : goal.invariant-loop-count
invariant-loop-count l =
    (l.room + 23 + octet_count (value_in l.fn.attrs) ≡ 4096) × IsFront (value_in l.fn.attrs) l.fn.prefixes l.count l.octets
