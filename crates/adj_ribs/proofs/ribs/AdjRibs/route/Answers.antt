use Rattle.std.proofs.Common.{sym, ap, ◌∙◌}
use Rattle.std.specs.FinMap as map_of
use Rattle.rcp_model.specs.Ribs.{RouteNumbers}
use Rattle.adj_ribs.proofs.JoinLemmas.{numbers_by, announced_is, live_number}
use Rattle.adj_ribs.proofs.LookLemmas.{found_route}
use Rattle.adj_ribs.proofs.ribs.AdjRibs.route.Goals as goal

pub get-requires : goal.get-requires
get-requires c =
    let s = c.self.inside in
    live_number s.routes s.announcements s.table.cells c.self.invariant.counted c.requires.0 c.args.number
    (ap (λ (m : RouteNumbers). map_of.get m c.requires.0) (numbers_by s.routes s.announcements s.table c.args.self.now c.self.view_is) ∙ c.requires.1)

pub returns : goal.returns
returns c key here =
    let s = c.self.inside in
    let own = ap (λ (m : RouteNumbers). map_of.get m key) (numbers_by s.routes s.announcements s.table c.args.self.now c.self.view_is) ∙ here in
    sym (found_route s.routes _ c.args.number c.get.result.now (sym own)
    (live_number s.routes s.announcements s.table.cells c.self.invariant.counted key c.args.number own) c.get.ensures.route
    ∙ announced_is s.routes s.announcements s.table c.args.self.now c.self.view_is key)
