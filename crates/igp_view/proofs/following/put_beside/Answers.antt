use Rattle.std.proofs.Common.{Contains, inl, inr, ap, subst, ◌∙◌}
use Rattle.std.proofs.lemmas.Result.{on_ok_weaker}
use Rattle.rcp_model.specs.Graphs.{IsGraph}
use Rattle.cost_rows.specs.Views.{ViewOf}
use Rattle.igp_view.proofs.FollowingLemmas.{few_beside}
use Rattle.igp_view.proofs.following.put_beside.Goals as goal

pub put_in-requires-clause-few : goal.put_in-requires-clause-few
put_in-requires-clause-few c =
    few_beside c.args.graph.now c.args.view.now.value.edges c.args.edge.now c.in-Some.other
    (subst IsGraph (c.graph.ensures ∙ ap (λ (v : ViewOf). v.edges) c.deref.ensures) c.edges-edges.ensures.kept) c.requires.there c.in-Some.ensures

pub returns-in-Some-clause-edges : goal.returns-in-Some-clause-edges
returns-in-Some-clause-edges c =
    on_ok_weaker c.put_in.result
    (λ only other member. elim (only other member) [ inl same ↦ inl (subst (Contains c.args.graph.now) same c.in-Some.ensures.there) | inr old ↦ inr old ])
    c.put_in.ensures.edges
