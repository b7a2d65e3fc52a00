use Rattle.std.proofs.Common.{length}
use Rattle.message_text.proofs.attributes.is_path.Given as goal

abbrev pub decreases-loop-more : goal.decreases-loop-more
decreases-loop-more l = length l.rest
