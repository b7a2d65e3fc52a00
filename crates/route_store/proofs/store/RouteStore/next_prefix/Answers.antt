use Rattle.std.proofs.Common.{subst, IsSome}
use Rattle.std.specs.BTreeMap as tree
use Rattle.rcp_base.specs.IpPrefix.{prefix_cmp}
use Rattle.rcp_model.specs.Ribs.{RouteNumbers}
use Rattle.route_store.specs.Announcers.{IsAnnounced}
use Rattle.route_store.specs.Next.{IsNext}
use Rattle.route_store.specs.Rows.{numbers_in}
use Rattle.route_store.proofs.StoreLemmas.{next_same, row_announced, announced_row}
use Rattle.route_store.proofs.store.RouteStore.next_prefix.Goals as goal

pub returns : goal.returns
returns c =
    subst (λ (m : RouteNumbers). IsNext (IsAnnounced m) c.args.after c.next_row.result) c.self.view_is
    (next_same (λ q. IsSome (tree.get prefix_cmp c.self.inside.rows q)) (IsAnnounced (numbers_in c.self.inside.rows))
    (row_announced c.self.inside.rows c.self.invariant.ordered c.self.invariant.filled) (announced_row c.self.inside.rows c.self.invariant.ordered)
    c.args.after c.next_row.result c.next_row.ensures)
