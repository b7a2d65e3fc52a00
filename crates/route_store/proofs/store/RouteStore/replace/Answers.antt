use Rattle.std.proofs.Common.{Some, is_some, sym, ap, ◌∙◌}
use Rattle.std.specs.FinMap as map_of
use Rattle.rcp_model.specs.Ribs.{RouteNumbers}
use Rattle.route_store.proofs.NumberLemmas.{get_number, numbers_put, numbers_same}
use Rattle.route_store.proofs.StoreLemmas.{none_is, seat_there, numbers_undone, store_put, store_same}
use Rattle.route_store.proofs.store.RouteStore.replace.Goals as goal

pub returns-in_default-clause-err : goal.returns-in_default-clause-err
returns-in_default-clause-err c =
    numbers_same c.self.inside.rows c.put.new.rows c.self.invariant.ordered c.put.ensures.ordered c.in_default.ensures.same ∙ c.self.view_is

pub invariant_of-self-then-is_some : goal.invariant_of-self-then-is_some
invariant_of-self-then-is_some c =
    store_put c.self.inside.rows c.self.inside.seats.items c.self.invariant c.put.new.rows c.self.inside.seats.items c.put.ensures.ordered c.put.ensures.filled
    (c.args.p, c.args.slot) (Some c.args.route) c.in-Ok.ensures.put
    (seat_there c.self.inside.seats.items (c.args.p, c.args.slot) (c.self.invariant.seated (c.args.p, c.args.slot) ∙ sym (ap is_some c.in-Ok.ensures.old) ∙ sym c.if-is_some.ensures))

pub returns-then-is_some-clause-set : goal.returns-then-is_some-clause-set
returns-then-is_some-clause-set c =
    numbers_put c.self.inside.rows c.put.new.rows c.self.invariant.ordered c.put.ensures.ordered (c.args.p, c.args.slot) c.args.route c.in-Ok.ensures.put
    ∙ ap (λ (m : RouteNumbers). map_of.insert m (c.args.p, c.args.slot) c.args.route) c.self.view_is

pub returns-then-is_some-clause-before : goal.returns-then-is_some-clause-before
returns-then-is_some-clause-before c =
    c.in-Ok.ensures.old ∙ sym (get_number c.self.inside.rows c.self.invariant.ordered (c.args.p, c.args.slot))
    ∙ ap (λ (m : RouteNumbers). map_of.get m (c.args.p, c.args.slot)) c.self.view_is

pub invariant_of-self-in_default-add_seat : goal.invariant_of-self-in_default-add_seat
invariant_of-self-in_default-add_seat c =
    store_same c.self.inside.rows c.self.inside.seats.items c.self.invariant c.take.new.rows c.add_seat.new.seats.items c.take.ensures.ordered c.take.ensures.filled
    (numbers_undone c.self.inside.rows c.put.new.rows c.take.new.rows (c.args.p, c.args.slot) (Some c.args.route) c.in-Ok.ensures.put c.take.ensures.taken
    (sym c.in-Ok.ensures.old ∙ none_is c.in-Ok.before c.if-is_some.ensures)) c.in_default-add_seat.ensures.same

pub returns-in_default-add_seat-clause-err : goal.returns-in_default-add_seat-clause-err
returns-in_default-add_seat-clause-err c =
    numbers_same c.self.inside.rows c.take.new.rows c.self.invariant.ordered c.take.ensures.ordered
    (numbers_undone c.self.inside.rows c.put.new.rows c.take.new.rows (c.args.p, c.args.slot) (Some c.args.route) c.in-Ok.ensures.put c.take.ensures.taken
    (sym c.in-Ok.ensures.old ∙ none_is c.in-Ok.before c.if-is_some.ensures)) ∙ c.self.view_is

pub returns-clause-set : goal.returns-clause-set
returns-clause-set c =
    numbers_put c.self.inside.rows c.put.new.rows c.self.invariant.ordered c.put.ensures.ordered (c.args.p, c.args.slot) c.args.route c.in-Ok.ensures.put
    ∙ ap (λ (m : RouteNumbers). map_of.insert m (c.args.p, c.args.slot) c.args.route) c.self.view_is

pub returns-clause-before : goal.returns-clause-before
returns-clause-before c =
    sym (none_is c.in-Ok.before c.if-is_some.ensures) ∙ c.in-Ok.ensures.old ∙ sym (get_number c.self.inside.rows c.self.invariant.ordered (c.args.p, c.args.slot))
    ∙ ap (λ (m : RouteNumbers). map_of.get m (c.args.p, c.args.slot)) c.self.view_is
