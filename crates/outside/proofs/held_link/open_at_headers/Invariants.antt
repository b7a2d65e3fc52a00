-- The next header begins further on each time.
use Rattle.std.proofs.Common.{◌-◌, length}
use Rattle.outside.proofs.held_link.open_at_headers.Given as goal

abbrev pub invariant-loop-scanned : goal.invariant-loop-scanned
invariant-loop-scanned l = Unit {0}

abbrev pub decreases-loop-scanned : goal.decreases-loop-scanned
decreases-loop-scanned l = length l.taken - l.scanned
