use Rattle.std.proofs.Common.{length}
use Rattle.message_text.proofs.links.push_links.Given as goal

abbrev pub decreases-loop-link : goal.decreases-loop-link
decreases-loop-link l = length l.rest
