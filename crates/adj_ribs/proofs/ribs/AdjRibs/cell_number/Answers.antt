use Rattle.std.proofs.Common.{ℕ, ◌<◌, sym, ap, subst, ◌∙◌}
use Rattle.std.specs.FinMap as map_of
use Rattle.rcp_model.specs.Ribs.{RouteNumbers}
use Rattle.adj_ribs.specs.Joins.{routes_of}
use Rattle.adj_ribs.proofs.JoinLemmas.{members_by, cell_numbers_by, given_by, live_cell}
use Rattle.adj_ribs.proofs.LookLemmas.{numbered, numbered_by}
use Rattle.adj_ribs.proofs.ribs.AdjRibs.cell_number.Goals as goal

pub get-requires : goal.get-requires
get-requires c =
    let s = c.self.inside in
    subst (λ (n : ℕ). c.args.slot < n) (sym (members_by s.routes s.announcements s.table c.args.self.now c.self.view_is)) c.requires

pub returns-clause-number : goal.returns-clause-number
returns-clause-number c =
    let s = c.self.inside in
    c.get.ensures ∙ ap (λ (m : RouteNumbers). map_of.get m (c.args.p, c.args.slot)) (cell_numbers_by s.routes s.announcements s.table c.args.self.now c.self.view_is)

pub returns-clause-numbered : goal.returns-clause-numbered
returns-clause-numbered c =
    let s = c.self.inside in
    numbered_by s.table.cells c.args.self.now.cell_numbers (routes_of s.routes s.table.cells) c.args.self.now.given
    (cell_numbers_by s.routes s.announcements s.table c.args.self.now c.self.view_is) (given_by s.routes s.announcements s.table c.args.self.now c.self.view_is)
    (numbered s.routes c.self.invariant.once s.table.cells (live_cell s.routes s.announcements s.table.cells c.self.invariant.counted))
