use Rattle.std.proofs.Common.{length}
use Rattle.rcp_model.specs.RouteServer.{cost_differs}
use Rattle.rcs_shard.proofs.MovedLemmas.{Flagging}
use Rattle.rcs_shard.proofs.marking.moved_slots.Given as goal

abbrev pub invariant-loop-slot : goal.invariant-loop-slot
invariant-loop-slot l = Flagging (λ e. cost_differs l.before.edges l.now.edges l.before.members e (length l.before.members)) l.slot l.moved
