use Rattle.adj_ribs.proofs.LookLemmas.{there_announced}
use Rattle.adj_ribs.proofs.DropLemmas.{nothing_left, first_some, first_none}
use Rattle.adj_ribs.proofs.ribs.AdjRibs.first_of.Goals as goal

pub returns-clause-some : goal.returns-clause-some
returns-clause-some c =
    let s = c.self.inside in
    first_some s.announcements c.args.slot c.args.self.now (λ q. there_announced s.routes s.announcements s.table c.args.self.now c.self.view_is (q, c.args.slot)) c.next_of.result c.next_of.ensures

pub returns-clause-none : goal.returns-clause-none
returns-clause-none c =
    let s = c.self.inside in
    first_none s.announcements c.args.slot _ (nothing_left s.routes s.announcements s.table c.args.self.now c.self.view_is c.args.slot) c.next_of.result c.next_of.ensures
