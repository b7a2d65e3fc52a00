use Rattle.std.proofs.Common.{◌∙◌}
use Rattle.adj_ribs.proofs.ChangeLemmas.{live_taken, joined_withdrawn, bases_withdrawn, withdrawn_is}
use Rattle.adj_ribs.proofs.ribs.AdjRibs.withdraw.Goals as goal

pub release-requires : goal.release-requires
release-requires c =
    let s = c.self.inside in
    live_taken s.routes s.announcements s.table c.self.invariant c.args.slot c.args.p c.take-before.result c.take-before.ensures.value

pub invariant_of-self : goal.invariant_of-self
invariant_of-self c =
    let s = c.self.inside in
    joined_withdrawn s.routes s.announcements s.table c.self.invariant c.args.slot c.args.p c.take-before.result c.take-before.ensures.value
    c.release.new.routes c.take-before.new.self c.release.ensures c.take-before.ensures.taken

pub returns-clause-changed : goal.returns-clause-changed
returns-clause-changed c =
    let s = c.self.inside in
    c.is_some.ensures
    ∙ withdrawn_is s.routes s.announcements s.table c.self.invariant c.args.slot c.args.p c.take-before.result c.take-before.ensures.value c.args.self.now c.self.view_is

pub returns-clause-after : goal.returns-clause-after
returns-clause-after c =
    let s = c.self.inside in
    bases_withdrawn s.routes s.announcements s.table c.self.invariant c.args.slot c.args.p c.take-before.result c.take-before.ensures.value
    c.release.new.routes c.take-before.new.self c.release.ensures c.take-before.ensures.taken c.args.self.now c.self.view_is
