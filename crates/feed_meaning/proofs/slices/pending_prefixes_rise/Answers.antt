use Rattle.feed_meaning.proofs.SliceLemmas.{pending-rise}
use Rattle.feed_meaning.proofs.slices.pending_prefixes_rise.Goals as goal

pub returns : goal.returns
returns c = pending-rise
