use Rattle.std.proofs.Common.{◌≡◌, ℕ, ◌<◌, Bool, false, arith, length, get_or, not, set, ap, subst, ◌∙◌, refl}
use Rattle.std.proofs.lemmas.List.{get_or_read}
use Rattle.feed_meaning.specs.SessionTurns.{octets_turn}
use Rattle.platform_core.specs.declared.sessions.Connection.{Connection}
use Rattle.platform_core.specs.declared.turns.Turn.{Turn}
use Rattle.platform_core.specs.Open.{connection_in, sessions_in}
use Rattle.platform_core.specs.Turns.{TookTurn, at_time}
use Rattle.platform_core.proofs.ConnectionLemmas.{same_place_as}
use Rattle.platform_core.proofs.SeatLemmas.{seat_at, keeps_member}
use Rattle.platform_core.proofs.TurnLemmas.{seat_within, took_unclaimed, took_claimed, octets_kept, moved_by, if_within, claim_is, seat_claimed, claimed_member, slot_claimed, octets_fit}
use Rattle.platform_core.proofs.sessions.receive.Goals as goal

pub move_seat-requires-clause-before : goal.move_seat-requires-clause-before
move_seat-requires-clause-before c =
    let old : Connection = c.index_mut-connection.result.now in
    if_within (length c.args.held.now.items) (seat_at (connection_in old)) c.seat-seat.result c.seat-seat.ensures
    (seat_within c.args.connections.now.items c.args.held.now.items c.args.place old c.requires.opened c.requires.place c.index_mut-connection.ensures.value)

pub move_seat-requires-clause-now : goal.move_seat-requires-clause-now
move_seat-requires-clause-now c =
    let xs = c.args.connections.now.items in
    let held = c.args.held.now.items in
    let old : Connection = c.index_mut-connection.result.now in
    let now : Connection = record { number = old.number; session = c.bytes.new.self } in
    if_within (length held) (seat_at (connection_in now)) c.seat.result c.seat.ensures
    (keeps_member (length held) (seat_at (connection_in old)) (seat_at (connection_in now)) (octets_kept c.args.roster.now c.args.octets.now c.args.time old now c.in_ok-actions.actions c.in_ok-actions.ensures.answered)
    (seat_within xs held c.args.place old c.requires.opened c.requires.place c.index_mut-connection.ensures.value))

pub index-requires : goal.index-requires
index-requires c =
    let old : Connection = c.index_mut-connection.result.now in
    let between : Connection = record { number = old.number; session = c.bytes.new.self } in
    let less = slot_claimed c.args.roster.now c.args.time c.args.octets.now old between c.in-Some.slot c.in_ok-actions.actions c.in-Some.is c.in_ok-actions.ensures.answered in
    let at : c.from.result ≡ c.in-Some.slot = c.from.ensures ∙ c.slot.view_is in
    omega (arith, at, less, c.requires.members, c.args.held.now.ok.0)

pub move_seat-requires-in-Some-clause-before : goal.move_seat-requires-in-Some-clause-before
move_seat-requires-in-Some-clause-before c =
    let old : Connection = c.index_mut-connection.result.now in
    if_within (length c.args.held.now.items) (seat_at (connection_in old)) c.seat-seat.result c.seat-seat.ensures
    (seat_within c.args.connections.now.items c.args.held.now.items c.args.place old c.requires.opened c.requires.place c.index_mut-connection.ensures.value)

pub move_seat-requires-in-Some-clause-now : goal.move_seat-requires-in-Some-clause-now
move_seat-requires-in-Some-clause-now c =
    let held = c.args.held.now.items in
    let old : Connection = c.index_mut-connection.result.now in
    let between : Connection = record { number = old.number; session = c.bytes.new.self } in
    let now : Connection = record { number = old.number; session = c.seated.new.self } in
    let slot : ℕ = c.in-Some.slot in
    let free : Bool = not c.index.result.now in
    let waits = claim_is c.args.roster.now c.args.time c.args.octets.now old between slot c.in_ok-actions.actions c.in-Some.is c.in_ok-actions.ensures.answered in
    let less : slot < length held = omega (arith, waits.0, c.requires.members) in
    if_within (length held) (seat_at (connection_in now)) c.seat-in-Some.result c.seat-in-Some.ensures
    (claimed_member (length held) (seat_at (connection_in now)) slot free less
    (seat_claimed c.args.roster.now c.args.time slot free between now c.in_ok-second-in-Some.second waits.1 c.in_ok-second-in-Some.ensures.answered))

pub returns-in-None-clause-turn : goal.returns-in-None-clause-turn
returns-in-None-clause-turn c d is =
    let xs = c.args.connections.now.items in
    let held = c.args.held.now.items in
    let new = c.move_seat.new.held.items in
    let old : Connection = c.index_mut-connection.result.now in
    let now : Connection = record { number = old.number; session = c.bytes.new.self } in
    let taken : Turn = record { number = old.number; seat = c.seat-seat.result; actions = c.in_ok-actions.actions } in
    let same : old ≡ d = same_place_as xs c.args.place old d c.requires.place c.index_mut-connection.ensures.value is in
    let did = c.in_ok-actions.ensures.answered in
    subst (λ (x : Connection). TookTurn c.args.roster.now (octets_turn (at_time c.args.roster.now c.args.time (sessions_in xs)) c.args.octets.now (connection_in x)) xs (set xs c.args.place now) new c.args.place taken) same
    (took_unclaimed c.args.roster.now c.args.time c.args.octets.now xs held new c.args.place old now taken (record {
      opened = c.requires.opened;
      brings = (octets_fit c.args.octets.now (λ k. omega (arith, c.type_inv.octets k)));
      within = c.requires.place;
      is = c.index_mut-connection.ensures.value;
      len = c.move_seat.ensures.members;
      members = c.requires.members;
      moved = moved_by (seat_at (connection_in old)) (seat_at (connection_in now)) c.seat-seat.result c.seat.result held new c.seat-seat.ensures c.seat.ensures c.move_seat.ensures.seats;
      keeps = octets_kept c.args.roster.now c.args.octets.now c.args.time old now c.in_ok-actions.actions did;
      number = refl;
      number_is = refl;
      seat_is = c.seat-seat.ensures;
      did = did;
    }) c.in-None.is)

pub returns-in_ok-then_also-in-Some-clause-turn : goal.returns-in_ok-then_also-in-Some-clause-turn
returns-in_ok-then_also-in-Some-clause-turn c d is =
    let xs = c.args.connections.now.items in
    let held = c.args.held.now.items in
    let new = c.move_seat-in-Some.new.held.items in
    let old : Connection = c.index_mut-connection.result.now in
    let between : Connection = record { number = old.number; session = c.bytes.new.self } in
    let now : Connection = record { number = old.number; session = c.seated.new.self } in
    let slot : ℕ = c.in-Some.slot in
    let free : Bool = not c.index.result.now in
    let taken : Turn = record { number = old.number; seat = c.seat_if.result; actions = c.in_ok-then_also-in-Some.field-0 } in
    let same : old ≡ d = same_place_as xs c.args.place old d c.requires.place c.index_mut-connection.ensures.value is in
    let less = slot_claimed c.args.roster.now c.args.time c.args.octets.now old between slot c.in_ok-actions.actions c.in-Some.is c.in_ok-actions.ensures.answered in
    let at : c.from.result ≡ slot = c.from.ensures ∙ c.slot.view_is in
    let inside : c.from.result < length held = omega (arith, at, less, c.requires.members) in
    let read : c.index.result.now ≡ get_or held slot false = get_or_read held c.from.result c.index.result.now inside c.index.ensures false ∙ ap (λ (n : ℕ). get_or held n false) at in
    subst (λ (x : Connection). TookTurn c.args.roster.now (octets_turn (at_time c.args.roster.now c.args.time (sessions_in xs)) c.args.octets.now (connection_in x)) xs (set xs c.args.place now) new c.args.place taken) same
    (took_claimed c.args.roster.now c.args.time c.args.octets.now xs held new c.args.place old between now slot free c.in_ok-actions.actions c.in_ok-second-in-Some.second taken (record {
      opened = c.requires.opened;
      brings = (octets_fit c.args.octets.now (λ k. omega (arith, c.type_inv.octets k)));
      within = c.requires.place;
      is = c.index_mut-connection.ensures.value;
      len = c.move_seat-in-Some.ensures.members;
      members = c.requires.members;
      moved = moved_by (seat_at (connection_in old)) (seat_at (connection_in now)) c.seat-seat.result c.seat-in-Some.result held new c.seat-seat.ensures c.seat-in-Some.ensures c.move_seat-in-Some.ensures.seats;
      number = refl;
      claim = c.in-Some.is;
      free_is = ap not read;
      did = c.in_ok-actions.ensures.answered;
      then_did = c.in_ok-second-in-Some.ensures.answered;
      number_is = refl;
      seat_is = c.seat_if.ensures;
      does = c.in_ok-then_also-in-Some.ensures;
    }))
