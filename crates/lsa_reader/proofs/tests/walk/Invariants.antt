use Rattle.lsa_reader.specs.Walking.{IsOnWalk}
use Rattle.lsa_reader.proofs.tests.walk.Given as goal

abbrev pub invariant-loop-step : goal.invariant-loop-step
invariant-loop-step l = IsOnWalk l.packet l.place
