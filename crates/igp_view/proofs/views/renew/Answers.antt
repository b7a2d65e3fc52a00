use Rattle.std.proofs.Common.{true, sym, ap, ◌∙◌}
use Rattle.std.proofs.lemmas.Bool.{false≢true}
use Rattle.cost_rows.specs.Views.{ViewOf}
use Rattle.igp_view.proofs.EdgeLemmas.{equal_edges, edges_equal}
use Rattle.igp_view.proofs.views.renew.Goals as goal

pub returns-then-eq-clause-edges : goal.returns-then-eq-clause-edges
returns-then-eq-clause-edges c state holds =
    sym (equal_edges c.edges.result.now c.edges-2.result.now (sym c.eq.ensures ∙ c.if-eq.true) ∙ c.edges-2.ensures.edges ∙ c.graph-2.ensures ∙ ap (λ (v : ViewOf). v.edges) c.deref.ensures)
    ∙ c.edges.ensures.edges ∙ c.in_ok-graph.ensures state holds

pub returns-clause-same : goal.returns-clause-same
returns-clause-same c same = absurd (false≢true (sym c.if-eq.false ∙ c.eq.ensures ∙ edges_equal c.edges.result.now c.edges-2.result.now
    (c.edges.ensures.edges ∙ sym c.in_ok-bring_over.ensures.edges ∙ same ∙ sym (c.edges-2.ensures.edges ∙ c.graph-2.ensures ∙ ap (λ (v : ViewOf). v.edges) c.deref.ensures))))
