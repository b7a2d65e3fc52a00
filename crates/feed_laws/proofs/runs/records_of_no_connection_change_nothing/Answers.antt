use Rattle.feed_laws.proofs.ConnectionLemmas.{no_connection, no_end}
use Rattle.feed_laws.proofs.runs.records_of_no_connection_change_nothing.Goals as goal

pub returns : goal.returns
returns c = record { octets = no_connection; end = no_end }
