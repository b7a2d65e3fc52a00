use Rattle.feed_laws.proofs.OrderLemmas.{connections-rise}
use Rattle.feed_laws.proofs.runs.connections_stand_by_rising_number.Goals as goal

pub returns : goal.returns
returns c = connections-rise
