use Rattle.std.proofs.Common.{ℕ, ◌<◌, Option, sym, ap, subst, ◌∙◌}
use Rattle.rcp_base.specs.IpPrefix.{IpPrefix}
use Rattle.adj_ribs.specs.Bases.{IsLeastDirty, after_take}
use Rattle.adj_ribs.proofs.JoinLemmas.{members_by, dirty_by}
use Rattle.adj_ribs.proofs.LookLemmas.{dirty_is}
use Rattle.adj_ribs.proofs.DropLemmas.{joined_cleaned, bases_cleaned}
use Rattle.adj_ribs.proofs.ribs.AdjRibs.take_dirty.Goals as goal

pub take_dirty-requires : goal.take_dirty-requires
take_dirty-requires c =
    let s = c.self.inside in
    subst (λ (n : ℕ). c.args.slot < n) (sym (members_by s.routes s.announcements s.table c.args.self.now c.self.view_is)) c.requires

pub invariant_of-self : goal.invariant_of-self
invariant_of-self c =
    let s = c.self.inside in
    joined_cleaned s.routes s.announcements s.table c.args.slot c.self.invariant _ c.take_dirty.new.self c.take_dirty.ensures.after

pub returns-clause-least : goal.returns-clause-least
returns-clause-least c =
    let s = c.self.inside in
    subst (IsLeastDirty c.args.self.now c.args.slot) (sym c.prefix_of.ensures)
    (dirty_is s.table c.args.self.now c.args.slot _ (dirty_by s.routes s.announcements s.table c.args.self.now c.self.view_is) c.take_dirty.ensures.least)

pub returns-clause-after : goal.returns-clause-after
returns-clause-after c =
    let s = c.self.inside in
    bases_cleaned s.routes s.announcements s.table c.args.slot _ c.take_dirty.new.self c.take_dirty.ensures.after c.args.self.now c.self.view_is
    ∙ ap (λ (o : Option IpPrefix). after_take c.args.slot o c.args.self.now) (sym c.prefix_of.ensures)
