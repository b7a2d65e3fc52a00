use Rattle.std.proofs.Common.{◌*◌, ◌≤◌, length}
use Rattle.rcp_model.specs.Costs.{IsTwoWay}
use Rattle.replica_law.proofs.tests.recorded.graph_of.Given as goal

abbrev pub invariant-loop-from : goal.invariant-loop-from
invariant-loop-from l = (length l.graph ≤ 2 * l.from-index) × IsTwoWay l.graph
