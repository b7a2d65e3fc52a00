use Rattle.adj_ribs.proofs.JoinLemmas.{joined_new, bases_new}
use Rattle.adj_ribs.proofs.ribs.AdjRibs.new.Goals as goal

pub invariant_of-result : goal.invariant_of-result
invariant_of-result c = joined_new c.new-2.result c.in_ok-announcements.announcements c.new-3.result c.args.members c.new-2.ensures c.in_ok-announcements.ensures c.new-3.ensures

pub returns : goal.returns
returns c = bases_new c.new-2.result c.in_ok-announcements.announcements c.new-3.result c.args.members c.new-2.ensures c.in_ok-announcements.ensures c.new-3.ensures
