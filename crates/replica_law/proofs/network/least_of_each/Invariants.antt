use Rattle.std.proofs.Common.{take}
use Rattle.replica_law.proofs.NetworkLemmas.{AreLeastsOf}
use Rattle.replica_law.proofs.network.least_of_each.Given as goal

abbrev pub invariant-loop-member : goal.invariant-loop-member
invariant-loop-member l = AreLeastsOf l.network.partitions (take l.member-index l.network.seats) l.leasts.items
