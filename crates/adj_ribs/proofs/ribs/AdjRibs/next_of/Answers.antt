use Rattle.std.proofs.Common.{IsSome, IfSome, sym, subst, ◌≡◌, true, ◌∙◌}
use Rattle.std.specs.FinMap as map_of
use Rattle.std.specs.FinSet as set_of
use Rattle.rcp_model.specs.ServerRibs.{Prefixes}
use Rattle.adj_ribs.specs.Bases.{announced_at}
use Rattle.adj_ribs.proofs.JoinLemmas.{opened_by}
use Rattle.adj_ribs.proofs.LookLemmas.{next_is, next_opened, there_announced}
use Rattle.adj_ribs.proofs.ribs.AdjRibs.next_of.Goals as goal

pub returns-clause-next : goal.returns-clause-next
returns-clause-next c =
    let s = c.self.inside in
    let same = there_announced s.routes s.announcements s.table c.args.self.now c.self.view_is in
    next_is (λ q. IsSome (map_of.get s.announcements (q, c.args.slot))) (λ q. IsSome (announced_at c.args.self.now c.args.slot q))
    (λ q one. sym (same (q, c.args.slot)) ∙ one) (λ q one. same (q, c.args.slot) ∙ one) c.args.after c.next_of.result c.next_of.ensures

pub returns-clause-opened : goal.returns-clause-opened
returns-clause-opened c =
    let s = c.self.inside in
    subst (λ (m : Prefixes). IfSome c.next_of.result (λ p. set_of.contains m p ≡ true)) (opened_by s.routes s.announcements s.table c.args.self.now c.self.view_is)
    (next_opened s.announcements s.table.opened c.self.invariant.announced (λ q. IsSome (map_of.get s.announcements (q, c.args.slot))) (λ q one. (c.args.slot, one))
    c.args.after c.next_of.result c.next_of.ensures)
