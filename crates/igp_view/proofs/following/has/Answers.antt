use Rattle.igp_view.proofs.FollowingLemmas.{found_edge}
use Rattle.igp_view.proofs.following.has.Goals as goal

pub returns : goal.returns
returns c = found_edge c.args.graph.now c.args.edge.now c.contains.result (rw c.edges_from.ensures.edges at c.contains.ensures.value)
