use Rattle.std.proofs.Common.{[], ◌∷◌, inl, inr}
use Rattle.std.proofs.lemmas.List.{take_all}
use Rattle.std.proofs.lemmas.List.Elements.{Contains-append_left, Contains-append_right}
use Rattle.rcp_model.proofs.MemberLemmas.{Contains-head}
use Rattle.igp_view.proofs.FollowingLemmas.{missing_more}
use Rattle.igp_view.proofs.following.missing.Goals as goal
use Rattle.igp_view.proofs.following.missing.Goals.{then-not-has+in_ok-push, else-not-has}

pub loop-edge-preserved : goal.loop-edge-preserved
loop-edge-preserved c = elim c.if-not-has.branch [
  | then-not-has+in_ok-push w ↦
      rw (w.missing-is, w.in_ok-push.ensures.items)
      (missing_more c.args.edges.now c.args.graph.now c.loop-edge.missing.items _ c.loop-edge.edge-index c.edge-item.result c.loop-edge-test.true c.edge-item.is
      (λ e gone. Contains-append_left c.loop-edge.missing.items (c.edge-item.result ∷ []) e gone)
      (inr (Contains-append_right c.loop-edge.missing.items (c.edge-item.result ∷ []) c.edge-item.result (Contains-head c.edge-item.result []))) c.loop-edge.invariant)
  | else-not-has w ↦
      rw w.missing-is
      (missing_more c.args.edges.now c.args.graph.now c.loop-edge.missing.items c.loop-edge.missing.items c.loop-edge.edge-index c.edge-item.result c.loop-edge-test.true c.edge-item.is
      (λ e gone. gone) (inl (c.has.ensures.0 w.if-not-has.false)) c.loop-edge.invariant)
]

pub returns : goal.returns
returns c edge member = c.loop-edge.invariant edge (rw (take_all c.loop-edge.edge-index c.args.edges.now c.loop-edge-test.false) member)
