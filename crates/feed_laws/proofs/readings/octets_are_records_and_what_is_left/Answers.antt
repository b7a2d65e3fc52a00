use Rattle.feed_laws.proofs.ReadingLemmas.{feed_is_read}
use Rattle.feed_laws.proofs.readings.octets_are_records_and_what_is_left.Goals as goal

pub returns : goal.returns
returns c = feed_is_read
