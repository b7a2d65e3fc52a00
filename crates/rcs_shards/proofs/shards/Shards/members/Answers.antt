use Rattle.std.proofs.Common.{ap, subst, ◌∙◌}
use Rattle.cost_rows.specs.Views.{ViewOf}
use Rattle.rcp_model.specs.Graphs.{IsGraph, AreMembers}
use Rattle.rcs_shards.proofs.AskLemmas.{assigned}
use Rattle.rcs_shards.proofs.shards.Shards.members.Goals as goal

pub returns-clause-law : goal.returns-clause-law
returns-clause-law c =
    let s = c.self.inside in
    assigned s.roster s.view.value s.connected s.shards.items c.self.invariant c.args.self.now c.self.view_is
    (subst (λ (v : ViewOf). AreMembers v.members) c.deref-view.ensures c.members.ensures.distinct)
    (subst IsGraph (c.graph.ensures ∙ ap (λ (v : ViewOf). v.edges) c.deref-view.ensures) c.edges-edges.ensures.kept)
