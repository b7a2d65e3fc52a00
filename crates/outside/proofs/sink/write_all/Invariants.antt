-- The front before `done` went out, and the count of faults has not fallen.
use Rattle.std.proofs.Common.{length, ◌-◌, ◌≡◌, ◌≤◌, take}
use Rattle.outside.specs.Told.{NeverFalls, behind}
use Rattle.outside.proofs.sink.write_all.Given as goal

abbrev pub invariant-loop-done : goal.invariant-loop-done
invariant-loop-done g l =
    (l.done ≤ length l.piece)
    × (g.K.Sink.taken l.sink ≡ behind (g.K.Sink.taken l.initial.sink) (take l.done l.piece))
    × NeverFalls (g.K.Sink.faults l.initial.sink) (g.K.Sink.faults l.sink)

abbrev pub decreases-loop-done : goal.decreases-loop-done
decreases-loop-done g l = length l.piece - l.done
