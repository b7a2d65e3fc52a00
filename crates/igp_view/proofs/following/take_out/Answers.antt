use Rattle.std.proofs.Common.{Contains, sym, ap, subst, ◌∙◌}
use Rattle.std.proofs.lemmas.Bool.{false≢true}
use Rattle.std.proofs.lemmas.Result.{on_ok_weaker}
use Rattle.rcp_model.specs.Graphs.{exclude_edge}
use Rattle.cost_rows.specs.Views.{ViewOf}
use Rattle.cost_rows.proofs.PlaceLemmas.{exclude_absent}
use Rattle.igp_view.proofs.following.take_out.Goals as goal

pub returns-then-not-has-clause-edges : goal.returns-then-not-has-clause-edges
returns-then-not-has-clause-edges c =
    let same = c.graph-before.ensures ∙ ap (λ (v : ViewOf). v.edges) c.deref.ensures in
    sym (exclude_absent c.args.edge c.args.view.now.value.edges (λ member. false≢true (sym c.if-not-has.true ∙ c.has.ensures.1 (subst (λ es. Contains es c.args.edge) (sym same) member))))

pub follow-requires-clause-changed : goal.follow-requires-clause-changed
follow-requires-clause-changed c = (λ is. absurd (false≢true is), λ member. absurd (c.in_ok-graph.ensures.changed member))

pub returns-clause-edges : goal.returns-clause-edges
returns-clause-edges c =
    let same = c.graph-before.ensures ∙ ap (λ (v : ViewOf). v.edges) c.deref.ensures in
    on_ok_weaker c.follow.result (λ is. is ∙ c.in_ok-graph.ensures.edges ∙ ap (exclude_edge c.args.edge) same) c.follow.ensures.edges
