use Rattle.std.proofs.Common.{length}
use Rattle.message_text.proofs.parts.push_parts.Given as goal

abbrev pub decreases-loop-message : goal.decreases-loop-message
decreases-loop-message g l = length l.rest
