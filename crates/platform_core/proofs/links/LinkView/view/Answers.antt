use Rattle.std.proofs.Common.{ap, ◌∙◌}
use Rattle.cost_rows.specs.Views.{ViewOf}
use Rattle.igp_view.specs.Igp.{IgpOf}
use Rattle.platform_core.proofs.OpenLemmas.{if_ok}
use Rattle.platform_core.proofs.links.LinkView.view.Goals as goal

pub returns-clause-members : goal.returns-clause-members
returns-clause-members c =
    if_ok _ _ c.view.result (λ view is. ap (λ (v : ViewOf). v.members) (is c.self.inside.igp.database.state c.view.ensures.kept) ∙ ap (λ (i : IgpOf). i.members) c.self.view_is) c.view.ensures.view
