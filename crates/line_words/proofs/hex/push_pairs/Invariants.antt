-- The pairs left, after the octets so far, give what all pairs give.
use Rattle.std.proofs.Common.{◌≡◌, length}
use Rattle.line_words.specs.Words.{hex_pairs_onto}
use Rattle.line_words.proofs.hex.push_pairs.Given as goal

abbrev pub invariant-loop-rest : goal.invariant-loop-rest
invariant-loop-rest l = hex_pairs_onto l.out.items l.rest ≡ hex_pairs_onto l.fn.out.items l.text

abbrev pub decreases-loop-rest : goal.decreases-loop-rest
decreases-loop-rest l = length l.rest
