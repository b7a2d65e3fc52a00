use Rattle.std.proofs.Common.{subst, IsTrue}
use Rattle.rcp_model.specs.Ribs.{RouteNumbers}
use Rattle.route_store.specs.Announcers.{IsAnnouncedBy}
use Rattle.route_store.specs.Next.{IsNext}
use Rattle.route_store.specs.Rows.{Seats, numbers_in, has_seat}
use Rattle.route_store.proofs.StoreLemmas.{next_same, seat_announced, announced_seat}
use Rattle.route_store.proofs.store.RouteStore.next_of.Goals as goal

pub returns : goal.returns
returns c =
    subst (λ (m : RouteNumbers). IsNext (IsAnnouncedBy m c.args.slot) c.args.after c.next_seat.result) c.self.view_is
    (next_same (λ q. IsTrue (has_seat c.self.inside.seats.items (q, c.args.slot))) (IsAnnouncedBy (numbers_in c.self.inside.rows) c.args.slot)
    (seat_announced c.self.inside.rows c.self.inside.seats.items c.self.invariant c.args.slot) (announced_seat c.self.inside.rows c.self.inside.seats.items c.self.invariant c.args.slot)
    c.args.after c.next_seat.result
    (subst (λ (s : Seats). IsNext (λ q. IsTrue (has_seat s (q, c.args.slot))) c.args.after c.next_seat.result) c.deref.ensures.value c.next_seat.ensures))
