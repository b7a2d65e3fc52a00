-- No more were counted than octets were passed.
use Rattle.std.proofs.Common.{◌+◌, ◌≤◌, length}
use Rattle.message_text.proofs.links.count_links.Given as goal

abbrev pub invariant-loop-more : goal.invariant-loop-more
invariant-loop-more l = l.count + length l.rest ≤ length l.fn.octets

abbrev pub decreases-loop-more : goal.decreases-loop-more
decreases-loop-more l = length l.rest
