use Rattle.std.proofs.Common.{length}
use Rattle.message_text.proofs.capabilities.push_capabilities.Given as goal

abbrev pub decreases-loop-code : goal.decreases-loop-code
decreases-loop-code l = length l.rest
