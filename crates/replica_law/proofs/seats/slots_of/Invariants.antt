use Rattle.replica_law.proofs.RosterLemmas.{AreSlotsTo}
use Rattle.replica_law.proofs.seats.slots_of.Given as goal

abbrev pub invariant-loop-place : goal.invariant-loop-place
invariant-loop-place l = AreSlotsTo l.members l.place l.slots
