use Rattle.std.proofs.Common.{◌≡◌, take}
use Rattle.replica_law.proofs.seats.members_of.Given as goal

abbrev pub invariant-loop-place : goal.invariant-loop-place
invariant-loop-place g l = l.members.items ≡ take l.place (g.X.Costs.members l.platform)
