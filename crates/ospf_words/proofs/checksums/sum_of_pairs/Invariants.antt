-- The sum so far and that of the octets left are the sum of all, modulo 65535.
use Rattle.std.proofs.Common.{◌≡◌, ◌+◌, ◌%◌, ◌<◌, length}
use Rattle.ospf_words.specs.Checksums.{sum_of_pairs}
use Rattle.ospf_words.proofs.checksums.sum_of_pairs.Given as goal

abbrev pub invariant-loop-rest : goal.invariant-loop-rest
invariant-loop-rest l = record {
  all : (l.sum + sum_of_pairs l.rest) % 65535 ≡ sum_of_pairs l.fn.octets % 65535;
  small : l.sum < 65535;
}

abbrev pub decreases-loop-rest : goal.decreases-loop-rest
decreases-loop-rest l = length l.rest
