use Rattle.std.proofs.Common.{ap, ◌∙◌}
use Rattle.std.specs.FinSet as set_of
use Rattle.rcp_model.specs.ServerRibs.{Prefixes}
use Rattle.adj_ribs.proofs.JoinLemmas.{opened_by}
use Rattle.adj_ribs.proofs.ribs.AdjRibs.is_opened.Goals as goal

pub returns : goal.returns
returns c =
    let s = c.self.inside in
    c.is_opened.ensures ∙ ap (λ (m : Prefixes). set_of.contains m c.args.p) (opened_by s.routes s.announcements s.table c.args.self.now c.self.view_is)
