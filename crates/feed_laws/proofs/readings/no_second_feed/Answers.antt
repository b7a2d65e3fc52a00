use Rattle.feed_laws.proofs.ReadingLemmas.{no_other_feed}
use Rattle.feed_laws.proofs.readings.no_second_feed.Goals as goal

pub returns : goal.returns
returns c = no_other_feed
