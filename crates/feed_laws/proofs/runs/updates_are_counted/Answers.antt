use Rattle.feed_laws.proofs.CountLemmas.{run-updates}
use Rattle.feed_laws.proofs.runs.updates_are_counted.Goals as goal

pub returns : goal.returns
returns c = run-updates
