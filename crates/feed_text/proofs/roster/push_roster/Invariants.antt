use Rattle.std.proofs.Common.{length}
use Rattle.feed_text.proofs.roster.push_roster.Given as goal

abbrev pub decreases-loop-line : goal.decreases-loop-line
decreases-loop-line l = length l.rest
