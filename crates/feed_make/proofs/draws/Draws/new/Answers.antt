use Rattle.feed_make.specs.Draws.{state_after}
use Rattle.feed_make.proofs.draws.Draws.new.Goals as goal

pub invariant_of-result : goal.invariant_of-result
unfolding state_after
invariant_of-result c = c.from.ensures
