use Rattle.std.proofs.Common.{length}
use Rattle.message_text.proofs.attributes.push_attributes.Given as goal

abbrev pub decreases-loop-attribute : goal.decreases-loop-attribute
decreases-loop-attribute l = length l.rest
