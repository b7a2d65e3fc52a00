use Rattle.std.proofs.Common.{◌≡◌, ℕ, ◌<◌, ◌≤◌, false, length, set, subst, ◌∙◌, arith}
use Rattle.route_store.specs.Rows.{SeatsThen}
use Rattle.route_store.proofs.SeatLemmas.{seat_then, seat_past}
use Rattle.route_store.proofs.seats.remove_seat.Goals as goal

pub returns-then-place-len : goal.returns-then-place-len
returns-then-place-len c =
    let at : c.from-place.result ≡ c.args.slot = c.from-place.ensures ∙ c.slot.view_is in
    let lt : c.from-place.result < length c.args.seats.now.items = omega arith in
    subst (λ (i : ℕ). SeatsThen c.args.seats.now.items (set c.args.seats.now.items c.from-place.result c.remove.new.self) (c.args.p, i) false) at
    (seat_then c.args.seats.now.items c.from-place.result c.index_mut.result.now c.remove.new.self c.args.p false lt c.index_mut.ensures.value c.remove.ensures.updates.0)

pub returns-else-place-len : goal.returns-else-place-len
returns-else-place-len c =
    let at : c.from-place.result ≡ c.args.slot = c.from-place.ensures ∙ c.slot.view_is in
    let past : length c.args.seats.now.items ≤ c.args.slot = omega arith in
    seat_past c.args.seats.now.items c.args.p c.args.slot past
