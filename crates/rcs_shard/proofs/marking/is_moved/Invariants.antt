use Rattle.std.proofs.Common.{◌≡◌, false}
use Rattle.rcp_model.specs.RouteServer.{cost_differs}
use Rattle.rcs_shard.proofs.marking.is_moved.Given as goal

abbrev pub invariant-loop-from : goal.invariant-loop-from
invariant-loop-from l = cost_differs l.before.edges l.now.edges l.before.members l.to l.from ≡ false
