use Rattle.std.proofs.Common.{take, ap, subst, ◌∙◌}
use Rattle.std.proofs.lemmas.List.{take_all}
use Rattle.rcp_model.specs.Graphs.{IsGraph}
use Rattle.cost_rows.specs.Views.{ViewOf}
use Rattle.igp_view.proofs.FollowingLemmas.{PuttingIn, taken, item_in, cheap_at, few_routers, putting_step, putting_ends}
use Rattle.igp_view.proofs.following.put_all_in.Goals as goal

pub put_in-requires-clause-few : goal.put_in-requires-clause-few
put_in-requires-clause-few c =
    let inside = item_in c.args.graph.now c.edges-edges.result.now c.loop-edge.edge-index c.edge-item.result c.edges-edges.ensures.edges c.loop-edge-test.true c.edge-item.is in
    few_routers c.args.graph.now c.loop-edge.view.value.edges c.edge-item.result c.edges-edges.ensures.kept inside c.loop-edge.invariant.within

pub put_in-requires-clause-cheap : goal.put_in-requires-clause-cheap
put_in-requires-clause-cheap c =
    let inside = item_in c.args.graph.now c.edges-edges.result.now c.loop-edge.edge-index c.edge-item.result c.edges-edges.ensures.edges c.loop-edge-test.true c.edge-item.is in
    cheap_at c.args.graph.now c.edge-item.result c.edges-edges.ensures.kept inside

pub loop-edge-preserved : goal.loop-edge-preserved
loop-edge-preserved c =
    let inside = item_in c.args.graph.now c.edges-edges.result.now c.loop-edge.edge-index c.edge-item.result c.edges-edges.ensures.edges c.loop-edge-test.true c.edge-item.is in
    rw (taken c.edges-edges.result.now c.loop-edge.edge-index c.edge-item.result c.loop-edge-test.true c.edge-item.is)
    (putting_step c.args.view.now.value c.args.graph.now c.loop-edge.engine c.put_in.new.engine c.loop-edge.view.value c.put_in.new.view.value (take c.loop-edge.edge-index c.edges-edges.result.now) c.edge-item.result
    inside c.in_ok-put_in.ensures.engine c.in_ok-put_in.ensures.members c.in_ok-put_in.ensures.there c.in_ok-put_in.ensures.edges c.in_ok-put_in.ensures.kept c.loop-edge.invariant)

pub returns-clause-edges : goal.returns-clause-edges
returns-clause-edges c =
    putting_ends c.args.view.now.value c.args.graph.now c.loop-edge.engine c.loop-edge.view.value c.edges-edges.ensures.kept
    (subst IsGraph (c.graph.ensures ∙ ap (λ (v : ViewOf). v.edges) c.deref.ensures) c.edges-after.ensures.kept)
    (subst (PuttingIn c.args.view.now.value c.args.graph.now c.loop-edge.engine c.loop-edge.view.value) (take_all c.loop-edge.edge-index c.edges-edges.result.now c.loop-edge-test.false ∙ c.edges-edges.ensures.edges) c.loop-edge.invariant)
