use Rattle.std.proofs.Common.{length}
use Rattle.message_text.proofs.attributes.push_path.Given as goal

abbrev pub decreases-loop-kind : goal.decreases-loop-kind
decreases-loop-kind l = length l.rest
