use Rattle.std.proofs.Common.{sym, eqb-true, ◌∙◌}
use Rattle.igp_view.proofs.FollowingLemmas.{beside_is}
use Rattle.igp_view.proofs.following.beside.Goals as goal

pub returns-then-eq : goal.returns-then-eq
returns-then-eq c =
    beside_is c.args.graph.now c.edges_from-edges.result.now c.args.edge.now c.loop-other.other-index c.other-item.result c.edges_from-edges.ensures.kept c.edges_from-edges.ensures.edges c.loop-other-test.true c.other-item.is
    (eqb-true c.other-item.result.to c.args.edge.now.to (sym c.eq.ensures ∙ c.if-eq.true))
