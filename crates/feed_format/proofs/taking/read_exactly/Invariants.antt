-- The front before `done` is what was read, the count of faults has not fallen, and the buffer holds octets.
use Rattle.std.proofs.Common.{length, ◌-◌, ◌≡◌, ◌<◌, ◌≤◌, All, take}
use Rattle.outside.specs.Told.{NeverFalls, in_front}
use Rattle.feed_format.proofs.taking.read_exactly.Given as goal

abbrev pub invariant-loop-done : goal.invariant-loop-done
invariant-loop-done g l =
    (l.done ≤ length l.buf)
    × (g.S.Source.left l.initial.source ≡ in_front (take l.done l.buf) (g.S.Source.left l.source))
    × NeverFalls (g.S.Source.faults l.initial.source) (g.S.Source.faults l.source)
    × All (λ octet. octet < 256) l.buf

abbrev pub decreases-loop-done : goal.decreases-loop-done
decreases-loop-done g l = length l.buf - l.done
