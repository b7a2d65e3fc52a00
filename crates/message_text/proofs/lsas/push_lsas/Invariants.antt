-- No more were counted than octets were passed.
use Rattle.std.proofs.Common.{◌+◌, ◌≤◌, length}
use Rattle.message_text.proofs.lsas.push_lsas.Given as goal

abbrev pub invariant-loop-lsa : goal.invariant-loop-lsa
invariant-loop-lsa l = l.count + length l.rest ≤ length l.fn.octets

abbrev pub decreases-loop-lsa : goal.decreases-loop-lsa
decreases-loop-lsa l = length l.rest
