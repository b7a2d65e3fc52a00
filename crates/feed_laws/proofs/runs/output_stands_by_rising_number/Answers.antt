use Rattle.feed_laws.proofs.OutputLemmas.{run-time, run-slice, run-drain}
use Rattle.feed_laws.proofs.runs.output_stands_by_rising_number.Goals as goal

pub returns : goal.returns
returns c = record { time = run-time; slice = run-slice; drain = run-drain }
