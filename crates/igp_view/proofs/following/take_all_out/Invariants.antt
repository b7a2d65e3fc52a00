use Rattle.std.proofs.Common.{take}
use Rattle.igp_view.proofs.FollowingLemmas.{TakingOut}
use Rattle.igp_view.proofs.following.take_all_out.Given as goal

abbrev pub invariant-loop-edge : goal.invariant-loop-edge
invariant-loop-edge l = TakingOut l.fn.view.value l.graph l.engine l.view.value (take l.edge-index l.edges)
