use Rattle.std.proofs.Common.{◌≡◌, ℕ, ◌<◌, true, not, cond, length, set, sym, ap, subst, ◌∙◌, arith}
use Rattle.std.specs.Ordering.{eq_by_cmp}
use Rattle.rcp_model.specs.Ribs.{rib_cmp}
use Rattle.route_store.specs.Rows.{has_seat, SeatsThen}
use Rattle.route_store.proofs.SeatLemmas.{seat_is, seat_same, seat_then}
use Rattle.route_store.proofs.seats.add_seat.Goals as goal

pub returns-clause-added : goal.returns-clause-added
returns-clause-added c =
    let at : c.from-place.result ≡ c.args.slot = c.from-place.ensures ∙ c.slot.view_is in
    let lt : c.from-place.result < length c.grow.new.seats.items = omega (arith, c.in-Ok.ensures.room) in
    c.in-Ok-insert.ensures.added
    ∙ ap not (sym (seat_is c.grow.new.seats.items c.from-place.result c.index_mut.result.now c.args.p lt c.index_mut.ensures.value)
    ∙ ap (λ (i : ℕ). has_seat c.grow.new.seats.items (c.args.p, i)) at ∙ c.grow.ensures.same (c.args.p, c.args.slot))

pub returns-clause-there : goal.returns-clause-there
returns-clause-there c q =
    let at : c.from-place.result ≡ c.args.slot = c.from-place.ensures ∙ c.slot.view_is in
    let lt : c.from-place.result < length c.grow.new.seats.items = omega (arith, c.in-Ok.ensures.room) in
    subst (λ (i : ℕ). SeatsThen c.grow.new.seats.items (set c.grow.new.seats.items c.from-place.result c.insert.new.self) (c.args.p, i) true) at
    (seat_then c.grow.new.seats.items c.from-place.result c.index_mut.result.now c.insert.new.self c.args.p true lt c.index_mut.ensures.value c.in-Ok-insert.ensures.updates.0) q
    ∙ ap (cond (eq_by_cmp rib_cmp q (c.args.p, c.args.slot)) true) (c.grow.ensures.same q)

pub returns-in_default-insert-clause-same : goal.returns-in_default-insert-clause-same
returns-in_default-insert-clause-same c q =
    let lt : c.from-place.result < length c.grow.new.seats.items = omega (arith, c.in-Ok.ensures.room) in
    seat_same c.grow.new.seats.items c.from-place.result c.index_mut.result.now c.insert.new.self lt c.index_mut.ensures.value c.in_default-insert.ensures.err q
    ∙ c.grow.ensures.same q
