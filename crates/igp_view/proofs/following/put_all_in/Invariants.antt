use Rattle.std.proofs.Common.{take}
use Rattle.igp_view.proofs.FollowingLemmas.{PuttingIn}
use Rattle.igp_view.proofs.following.put_all_in.Given as goal

abbrev pub invariant-loop-edge : goal.invariant-loop-edge
invariant-loop-edge l = PuttingIn l.fn.view.value l.graph l.engine l.view.value (take l.edge-index l.edges)
