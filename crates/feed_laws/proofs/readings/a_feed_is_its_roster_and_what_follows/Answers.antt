use Rattle.feed_laws.proofs.MeaningLemmas.{meaning_is}
use Rattle.feed_laws.proofs.readings.a_feed_is_its_roster_and_what_follows.Goals as goal

pub returns : goal.returns
returns c = meaning_is
