use Rattle.std.proofs.Common.{◌≤◌, length, Contains, inr, refl, sym, ap, subst, ◌∙◌}
use Rattle.std.proofs.lemmas.Result.{on_ok_weaker}
use Rattle.rcp_model.specs.Edges.{include_edge}
use Rattle.rcp_model.specs.Graphs.{routers_in}
use Rattle.rcp_model.proofs.GraphLemmas.{include-member, member_of_include}
use Rattle.cost_rows.specs.Views.{ViewOf}
use Rattle.igp_view.proofs.following.put_in.Goals as goal

pub graph_with-requires-clause-few : goal.graph_with-requires-clause-few
graph_with-requires-clause-few c =
    let same = c.graph-before.ensures ∙ ap (λ (v : ViewOf). v.edges) c.deref.ensures in
    subst (λ es. length (routers_in (include_edge c.args.edge es)) ≤ 2560) (sym same) c.requires.few

pub follow-requires-clause-changed : goal.follow-requires-clause-changed
follow-requires-clause-changed c = (λ is. c.in_ok-graph.ensures.changed, λ member. refl)

pub returns-clause-there : goal.returns-clause-there
returns-clause-there c = on_ok_weaker c.follow.result (λ is. subst (λ es. Contains es c.args.edge) (sym is) c.in_ok-graph.ensures.changed) c.follow.ensures.edges

pub returns-clause-edges : goal.returns-clause-edges
returns-clause-edges c =
    let same = c.graph-before.ensures ∙ ap (λ (v : ViewOf). v.edges) c.deref.ensures in
    on_ok_weaker c.follow.result
    (λ is other member. member_of_include c.args.edge c.args.view.now.value.edges other (subst (λ es. Contains es other) (is ∙ c.in_ok-graph.ensures.edges ∙ ap (include_edge c.args.edge) same) member))
    c.follow.ensures.edges

pub returns-clause-kept : goal.returns-clause-kept
returns-clause-kept c =
    let same = c.graph-before.ensures ∙ ap (λ (v : ViewOf). v.edges) c.deref.ensures in
    on_ok_weaker c.follow.result
    (λ is other member. subst (λ es. Contains es other) (sym (is ∙ c.in_ok-graph.ensures.edges ∙ ap (include_edge c.args.edge) same)) (include-member c.args.edge c.args.view.now.value.edges other (inr member)))
    c.follow.ensures.edges
