use Rattle.std.proofs.Common.{ℕ, ◌<◌, sym, subst}
use Rattle.adj_ribs.proofs.JoinLemmas.{members_by}
use Rattle.adj_ribs.proofs.DropLemmas.{joined_unmarked, bases_unmarked}
use Rattle.adj_ribs.proofs.ribs.AdjRibs.clean.Goals as goal

pub clean-requires : goal.clean-requires
clean-requires c =
    let s = c.self.inside in
    subst (λ (n : ℕ). c.args.slot < n) (sym (members_by s.routes s.announcements s.table c.args.self.now c.self.view_is)) c.requires

pub invariant_of-self : goal.invariant_of-self
invariant_of-self c =
    let s = c.self.inside in
    joined_unmarked s.routes s.announcements s.table c.args.slot c.self.invariant c.clean.new.self c.clean.ensures

pub returns : goal.returns
returns c =
    let s = c.self.inside in
    bases_unmarked s.routes s.announcements s.table c.args.slot c.clean.new.self c.clean.ensures c.args.self.now c.self.view_is
