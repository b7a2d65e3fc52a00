use Rattle.std.proofs.Common.{◌-◌, length}
use Rattle.route_store.specs.Rows.{SameSeats}
use Rattle.route_store.proofs.seats.grow.Given as goal

abbrev pub invariant-loop-alloc : goal.invariant-loop-alloc
invariant-loop-alloc l = SameSeats l.initial.seats.items l.seats.items

abbrev pub decreases-loop-alloc : goal.decreases-loop-alloc
decreases-loop-alloc l = l.count - length l.seats.items
