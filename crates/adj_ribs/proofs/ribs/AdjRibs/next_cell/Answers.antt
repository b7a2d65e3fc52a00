use Rattle.std.proofs.Common.{ℕ, ◌<◌, sym, subst}
use Rattle.out_table.specs.Tables as tables
use Rattle.adj_ribs.specs.Bases.{given_at}
use Rattle.adj_ribs.proofs.JoinLemmas.{members_by}
use Rattle.adj_ribs.proofs.LookLemmas.{entry_is, there_given}
use Rattle.adj_ribs.proofs.ribs.AdjRibs.next_cell.Goals as goal

pub next_entry-requires : goal.next_entry-requires
next_entry-requires c =
    let s = c.self.inside in
    subst (λ (n : ℕ). c.args.slot < n) (sym (members_by s.routes s.announcements s.table c.args.self.now c.self.view_is)) c.requires

pub returns : goal.returns
returns c =
    let s = c.self.inside in
    entry_is c.args.after (tables.cell s.table c.args.slot) (given_at c.args.self.now c.args.slot)
    (λ q. there_given s.routes s.announcements s.table c.args.self.now c.self.view_is (q, c.args.slot)) c.next_entry.result c.next_entry.ensures
