use Rattle.std.proofs.Common.{◌≡◌, length, set, subst, refl}
use Rattle.rcp_model.specs.Sessions.{Moment}
use Rattle.feed_meaning.specs.SessionTurns.{simple_turn}
use Rattle.platform_core.specs.declared.sessions.Connection.{Connection}
use Rattle.platform_core.specs.declared.turns.Turn.{Turn}
use Rattle.platform_core.specs.Open.{connection_in}
use Rattle.platform_core.specs.Turns.{TookTurn}
use Rattle.platform_core.proofs.ConnectionLemmas.{same_place_as}
use Rattle.platform_core.proofs.SeatLemmas.{seat_at, keeps_member}
use Rattle.platform_core.proofs.TurnLemmas.{seat_within, took_simple, time_kept, moved_by, if_within, any_roster}
use Rattle.platform_core.proofs.sessions.tick.Goals as goal

pub move_seat-requires-clause-before : goal.move_seat-requires-clause-before
move_seat-requires-clause-before c =
    let old : Connection = c.index_mut-connection.result.now in
    if_within (length c.args.held.now.items) (seat_at (connection_in old)) c.seat-seat.result c.seat-seat.ensures
    (seat_within c.args.connections.now.items c.args.held.now.items c.args.place old c.requires.opened c.requires.place c.index_mut-connection.ensures.value)

pub move_seat-requires-clause-now : goal.move_seat-requires-clause-now
move_seat-requires-clause-now c =
    let xs = c.args.connections.now.items in
    let held = c.args.held.now.items in
    let old : Connection = c.index_mut-connection.result.now in
    let now : Connection = record { number = old.number; session = c.clock.new.self } in
    if_within (length held) (seat_at (connection_in now)) c.seat.result c.seat.ensures
    (keeps_member (length held) (seat_at (connection_in old)) (seat_at (connection_in now)) (time_kept any_roster c.args.time old now c.in_ok-actions.actions (c.in_ok-actions.ensures.answered any_roster))
    (seat_within xs held c.args.place old c.requires.opened c.requires.place c.index_mut-connection.ensures.value))

pub returns-clause-turn : goal.returns-clause-turn
returns-clause-turn c roster members d is =
    let xs = c.args.connections.now.items in
    let held = c.args.held.now.items in
    let new = c.move_seat.new.held.items in
    let old : Connection = c.index_mut-connection.result.now in
    let now : Connection = record { number = old.number; session = c.clock.new.self } in
    let taken : Turn = record { number = old.number; seat = c.seat-seat.result; actions = c.in_ok-actions.actions } in
    let same : old ≡ d = same_place_as xs c.args.place old d c.requires.place c.index_mut-connection.ensures.value is in
    let did = c.in_ok-actions.ensures.answered roster in
    subst (λ (x : Connection). TookTurn roster (simple_turn roster (Moment c.args.time) (connection_in x)) xs (set xs c.args.place now) new c.args.place taken) same
    (took_simple roster (Moment c.args.time) xs held new c.args.place old now taken (record {
      opened = c.requires.opened;
      brings = tt;
      within = c.requires.place;
      is = c.index_mut-connection.ensures.value;
      len = c.move_seat.ensures.members;
      members = members;
      moved = moved_by (seat_at (connection_in old)) (seat_at (connection_in now)) c.seat-seat.result c.seat.result held new c.seat-seat.ensures c.seat.ensures c.move_seat.ensures.seats;
      keeps = time_kept roster c.args.time old now c.in_ok-actions.actions did;
      number = refl;
      number_is = refl;
      seat_is = c.seat-seat.ensures;
      did = did;
    }))
