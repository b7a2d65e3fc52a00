use Rattle.std.proofs.Common.{Contains, inr, sym, ap, subst, ◌∙◌}
use Rattle.std.proofs.lemmas.Bool.{false≢true}
use Rattle.std.proofs.lemmas.Result.{on_ok_weaker}
use Rattle.cost_rows.specs.Views.{ViewOf}
use Rattle.igp_view.proofs.FollowingLemmas.{replaced}
use Rattle.igp_view.proofs.following.replace.Goals as goal

pub returns-then-not-has-clause-edges : goal.returns-then-not-has-clause-edges
returns-then-not-has-clause-edges c other member =
    let same = c.graph-before.ensures ∙ ap (λ (v : ViewOf). v.edges) c.deref.ensures in
    inr (
      member,
      λ is. false≢true (sym c.if-not-has.true ∙ c.has.ensures.1 (subst (λ es. Contains es c.args.edge) (sym same) (subst (Contains c.args.view.now.value.edges) (sym is) member))),
    )

pub put_beside-requires-clause-there : goal.put_beside-requires-clause-there
put_beside-requires-clause-there c =
    let same = c.graph-before.ensures ∙ ap (λ (v : ViewOf). v.edges) c.deref.ensures in
    subst (λ es. Contains es c.args.edge) same (c.has.ensures.0 c.if-not-has.false)

pub returns-clause-edges : goal.returns-clause-edges
returns-clause-edges c =
    on_ok_weaker c.take_out.result
    (λ is. replaced c.args.graph.now c.args.view.now.value.edges c.put_beside.new.view.value.edges c.take_out.new.view.value.edges c.args.edge c.in_ok-put_beside.ensures.edges is)
    c.take_out.ensures.edges
