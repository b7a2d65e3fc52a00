use Rattle.std.proofs.Common.{ℕ, ◌<◌, Some, None, sym, ap, subst, ◌∙◌}
use Rattle.std.specs.Option.{option_map}
use Rattle.adj_ribs.specs.Bases.{IsNextDirty}
use Rattle.adj_ribs.specs.Joins.{route_in}
use Rattle.adj_ribs.proofs.JoinLemmas.{members_by, dirty_by, given_is, live_cell}
use Rattle.adj_ribs.proofs.LookLemmas.{next_dirty_is, found_route, none_found}
use Rattle.adj_ribs.proofs.ribs.AdjRibs.next_dirty.Goals as goal

pub next_dirty-requires : goal.next_dirty-requires
next_dirty-requires c =
    let s = c.self.inside in
    subst (λ (n : ℕ). c.args.slot < n) (sym (members_by s.routes s.announcements s.table c.args.self.now c.self.view_is)) c.requires

pub returns-in_err-p-clause-next : goal.returns-in_err-p-clause-next
returns-in_err-p-clause-next c =
    let s = c.self.inside in
    subst (IsNextDirty c.args.self.now c.args.slot c.args.after) (sym (none_found (λ found. found.0) c.from_residual.result c.from_residual.ensures))
    (next_dirty_is s.table c.args.self.now c.args.slot c.args.after None (dirty_by s.routes s.announcements s.table c.args.self.now c.self.view_is) c.in_err-p.ensures.least)

pub get-requires : goal.get-requires
get-requires c =
    let s = c.self.inside in
    live_cell s.routes s.announcements s.table.cells c.self.invariant.counted (c.in_ok-p.p, c.args.slot) c.in-Some.number (sym c.in_ok-p.ensures.value ∙ c.in-Some.is)

pub returns-in-Some-clause-next : goal.returns-in-Some-clause-next
returns-in-Some-clause-next c =
    let s = c.self.inside in
    next_dirty_is s.table c.args.self.now c.args.slot c.args.after (Some c.in_ok-p.p) (dirty_by s.routes s.announcements s.table c.args.self.now c.self.view_is) c.in_ok-p.ensures.least

pub returns-in-Some-clause-route : goal.returns-in-Some-clause-route
returns-in-Some-clause-route c =
    let s = c.self.inside in
    found_route s.routes _ c.in-Some.number c.get.result.now (sym (sym c.in_ok-p.ensures.value ∙ c.in-Some.is))
    (live_cell s.routes s.announcements s.table.cells c.self.invariant.counted (c.in_ok-p.p, c.args.slot) c.in-Some.number (sym c.in_ok-p.ensures.value ∙ c.in-Some.is)) c.get.ensures.route
    ∙ given_is s.routes s.announcements s.table c.args.self.now c.self.view_is (c.in_ok-p.p, c.args.slot)

pub returns-in-None-clause-next : goal.returns-in-None-clause-next
returns-in-None-clause-next c =
    let s = c.self.inside in
    next_dirty_is s.table c.args.self.now c.args.slot c.args.after (Some c.in_ok-p.p) (dirty_by s.routes s.announcements s.table c.args.self.now c.self.view_is) c.in_ok-p.ensures.least

pub returns-in-None-clause-route : goal.returns-in-None-clause-route
returns-in-None-clause-route c =
    let s = c.self.inside in
    ap (option_map (route_in s.routes)) (sym c.in-None.is ∙ c.in_ok-p.ensures.value)
    ∙ given_is s.routes s.announcements s.table c.args.self.now c.self.view_is (c.in_ok-p.p, c.args.slot)
