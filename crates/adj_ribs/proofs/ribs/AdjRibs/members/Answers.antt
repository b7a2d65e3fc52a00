use Rattle.std.proofs.Common.{◌∙◌}
use Rattle.adj_ribs.proofs.JoinLemmas.{members_by}
use Rattle.adj_ribs.proofs.ribs.AdjRibs.members.Goals as goal

pub returns : goal.returns
returns c =
    let s = c.self.inside in
    c.members.ensures ∙ members_by s.routes s.announcements s.table c.args.self.now c.self.view_is
