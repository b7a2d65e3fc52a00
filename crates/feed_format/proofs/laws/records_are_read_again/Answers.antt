use Rattle.feed_format.proofs.AgainLemmas.{front_again}
use Rattle.feed_format.proofs.laws.records_are_read_again.Goals as goal

pub returns : goal.returns
returns c = front_again
