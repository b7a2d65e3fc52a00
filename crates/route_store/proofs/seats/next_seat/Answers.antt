use Rattle.std.proofs.Common.{◌≡◌, ℕ, IsTrue, sym, subst, ◌∙◌}
use Rattle.route_store.specs.Rows.{has_seat}
use Rattle.route_store.proofs.SeatLemmas.{empty_slot}
use Rattle.route_store.proofs.seats.next_seat.Goals as goal

pub returns-in-None-first : goal.returns-in-None-first
returns-in-None-first c q later there =
    let at : c.from.result ≡ c.args.slot = c.from.ensures ∙ c.slot.view_is in
    empty_slot c.args.seats.now c.from.result q c.in-Some.prefixes.now c.in-Some.ensures.lookup.3.0 c.in-Some.ensures.lookup.1
    (λ some. let first = c.in-None-first.ensures.variant.1 some in cc)
    (subst (λ (i : ℕ). IsTrue (has_seat c.args.seats.now (q, i))) (sym at) there)
