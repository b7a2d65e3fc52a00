use Rattle.std.proofs.Common.{take, ◌⊎◌, Contains, subst}
use Rattle.std.proofs.lemmas.List.{take_all}
use Rattle.igp_view.proofs.FollowingLemmas.{taken, taking_step}
use Rattle.igp_view.proofs.following.take_all_out.Goals as goal

pub loop-edge-preserved : goal.loop-edge-preserved
loop-edge-preserved c =
    rw (taken c.args.edges.now c.loop-edge.edge-index c.edge-item.result c.loop-edge-test.true c.edge-item.is)
    (taking_step c.args.view.now.value c.args.graph.now c.loop-edge.engine c.replace.new.engine c.loop-edge.view.value c.replace.new.view.value (take c.loop-edge.edge-index c.args.edges.now) c.edge-item.result
    c.in_ok-replace.ensures.engine c.in_ok-replace.ensures.members c.in_ok-replace.ensures.edges c.loop-edge.invariant)

pub returns-clause-edges : goal.returns-clause-edges
returns-clause-edges c edge member =
    subst (λ out. Contains c.args.graph.now edge ⊎ (Contains c.args.view.now.value.edges edge × (Contains out edge → ⊥))) (take_all c.loop-edge.edge-index c.args.edges.now c.loop-edge-test.false)
    (c.loop-edge.invariant.edges edge member)
