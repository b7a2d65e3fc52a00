use Rattle.std.proofs.Common.{length}
use Rattle.message_text.proofs.capabilities.are_capabilities.Given as goal

abbrev pub decreases-loop-more : goal.decreases-loop-more
decreases-loop-more l = length l.rest
