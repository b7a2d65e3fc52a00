use Rattle.std.proofs.Common.{length}
use Rattle.message_text.proofs.messages.push_prefixes.Given as goal

abbrev pub decreases-loop-length : goal.decreases-loop-length
decreases-loop-length l = length l.rest
