use Rattle.std.proofs.Common.{◌≡◌, ◌-◌, length, take}
use Rattle.replica_law.proofs.network.edges_of.Given as goal

abbrev pub invariant-loop-edge : goal.invariant-loop-edge
invariant-loop-edge g l = l.edges.items ≡ take (length l.edges.items) (g.X.Costs.edges l.platform)

abbrev pub decreases-loop-edge : goal.decreases-loop-edge
decreases-loop-edge g l = length (g.X.Costs.edges l.platform) - length l.edges.items
