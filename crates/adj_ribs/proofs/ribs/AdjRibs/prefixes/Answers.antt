use Rattle.std.proofs.Common.{◌∙◌}
use Rattle.adj_ribs.proofs.CountLemmas.{prefixes_counted}
use Rattle.adj_ribs.proofs.LookLemmas.{there_announced}
use Rattle.adj_ribs.proofs.ribs.AdjRibs.prefixes.Goals as goal

pub returns : goal.returns
returns c =
    let s = c.self.inside in
    c.prefixes.ensures
    ∙ prefixes_counted s.announcements c.args.self.now.announced (there_announced s.routes s.announcements s.table c.args.self.now c.self.view_is)
