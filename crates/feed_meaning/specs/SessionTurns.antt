-- What a record does with the sessions: each that it comes to takes a turn, of which the route control server learns.
use Rattle.std.specs.Prelude.{ℕ, Bool, false, not, ◌==◌, List, [], ◌∷◌, ◌++◌, map, Option, Some, None, if◌then◌else◌}
use Rattle.std.specs.List.{list_any, flat_map}
use Rattle.std.specs.Int.{w32, from_be_bytes}
use Rattle.rcp_base.specs.declared.kinds.Kind.{Kind}
use Rattle.rcp_base.specs.declared.kinds.Kind.TheVariants as kind
use Rattle.rcp_base.specs.Feed.{FeedRecord, OutRecord, is_time, moment_of}
use Rattle.rcp_base.specs.Roster.{RosterOf, slot_from}
use Rattle.rcp_base.specs.Maps.{get_at, set_at}
use Rattle.rcp_model.specs.LinkState.{same_number}
use Rattle.rcp_model.specs.Sessions.{Ending, SessionEvent, Announce, Withdraw, Doing, seat_of, SessionState, Answer, Input, Octets, Seat, Moment, End, answer, begun, begun_established, is_closed, seat_taken, stepped, then_also}
use Rattle.rcp_model.specs.Sessions as session
use Rattle.rcp_model.specs.RouteServer.{ServerEvent, Up, Down, Change, after_all}
use Rattle.feed_meaning.specs.Platform.{Connections, Platform, domain_of, Acted}
use Rattle.feed_meaning.specs.OutRecords.{messages_to, end_record}

-- ---- seats

abbrev pub is_slot : ℕ → Option ℕ → Bool
is_slot slot None = false
is_slot slot (Some other) = other == slot

abbrev pub is_free : Connections → ℕ → Bool
is_free connections slot = not (list_any (λ entry. is_slot slot (seat_of entry.1.phase)) connections)

-- ---- a session's turn

-- What the session of a connection does at a record: the seat that it holds meanwhile, and its answer to what came.
pub record Turn : Type 0 where
  pub number : ℕ
  pub seat : Option ℕ
  pub answer : Answer

abbrev pub turn : ℕ → Option ℕ → Answer → Turn
turn number seat answer = record { number = number; seat = seat; answer = answer }

-- what comes to a session that claims no seat by it
abbrev pub simple_turn : RosterOf → Input → ℕ × SessionState → Turn
simple_turn roster input entry = turn entry.0 (seat_of entry.1.phase) (answer roster input entry.1)

-- A seat that was claimed is given where no connection holds it, and the session goes on at once.
abbrev pub claim_turn : Platform → ℕ → Option ℕ → Answer → Option ℕ → Turn
claim_turn platform number seat first None = turn number seat first
claim_turn platform number seat first (Some slot) =
    let free = is_free platform.connections slot in
    let second = answer platform.roster (Seat free platform.moment) first.after in
    turn number (if free then Some slot else None) (record second { does = then_also first.does second.does })

-- octets that come on a connection
abbrev pub octets_turn : Platform → List ℕ → ℕ × SessionState → Turn
octets_turn platform octets entry =
    let first = answer platform.roster (Octets octets platform.moment) entry.1 in
    claim_turn platform entry.0 (seat_of entry.1.phase) first first.does.claim

-- the connection of a number, where it is open
abbrev pub connection_at : Connections → ℕ → List (ℕ × SessionState)
connection_at connections number = elim (get_at same_number number connections) [ None ↦ [] | Some found ↦ (number, found) ∷ [] ]

-- A connection of an established router begins. Where its seat is taken it is closed at once.
abbrev pub ready_turn : Platform → ℕ → Option ℕ → List Turn
ready_turn platform number None = []
ready_turn platform number (Some slot) =
    if is_free platform.connections slot
    then turn number (Some slot) (begun_established slot) ∷ []
    else turn number None (stepped 0 [] seat_taken) ∷ []

-- the router that the body of a record names
abbrev pub slot_named : RosterOf → List ℕ → Option ℕ
slot_named roster body = slot_from 0 roster.members (from_be_bytes w32 body)

-- the turns of a record, of the platform as it is before it
abbrev pub turns_of : Platform → ℕ → List ℕ → Kind → List Turn
turns_of platform number body kind.Ready = ready_turn platform number (slot_named platform.roster body)
turns_of platform number body kind.Raw = turn number None (begun platform.roster platform.moment) ∷ []
turns_of platform number body kind.Octets = map (octets_turn platform body) (connection_at platform.connections number)
turns_of platform number body kind.Closed = map (simple_turn platform.roster End) (connection_at platform.connections number)
turns_of platform number body kind.Time = map (simple_turn platform.roster (Moment (moment_of body))) platform.connections
turns_of platform number body kind = []

-- ---- what a turn does to the server

-- what a router says, as an event of its slot
abbrev pub server_event : ℕ → SessionEvent → ServerEvent
server_event slot session.Up = Up slot
server_event slot (Announce p route) = Change slot p (Some route.attrs)
server_event slot (Withdraw p) = Change slot p None

-- A session that ends gives up its seat. Where its router wasn't connected that changes nothing.
abbrev pub end_events : ℕ → Option Ending → List ServerEvent
end_events slot None = []
end_events slot (Some ending) = Down slot ∷ []

abbrev pub seat_events : Option ℕ → Doing → List ServerEvent
seat_events None does = []
seat_events (Some slot) does = map (server_event slot) does.events ++ end_events slot does.closed

abbrev pub turn_events : Turn → List ServerEvent
turn_events turn = seat_events turn.seat turn.answer.does

-- a session that is closed is no connection's
abbrev pub if_open : SessionState → Option SessionState
if_open session = if is_closed session.phase then None else Some session

abbrev pub after_turn : Turn → Platform → Platform
after_turn turn platform = record platform {
  connections = set_at same_number turn.number (if_open turn.answer.after) platform.connections;
  server = after_all (domain_of platform.roster) (turn_events turn) platform.server;
}

abbrev pub after_turns : List Turn → Platform → Platform
after_turns [] platform = platform
after_turns (turn ∷ turns) platform = after_turns turns (after_turn turn platform)

-- ---- what is put out, and the platform afterwards

-- the messages of a turn, and then the end
abbrev pub turn_output : Turn → List OutRecord
turn_output turn = messages_to turn.number turn.answer.does.sent ++ end_record turn.number turn.answer.does.closed

-- the platform at the time of a record
abbrev pub noted : FeedRecord → Platform → Platform
noted item platform = record platform { moment = if is_time item.kind then moment_of item.body else platform.moment }

abbrev pub record_turns : Platform → FeedRecord → List Turn
record_turns platform item = turns_of platform item.source item.body item.kind

-- The turns of a record, one after another.
abbrev pub turns_act : Platform → FeedRecord → Acted
turns_act platform item = record {
  after = after_turns (record_turns platform item) (noted item platform);
  out = flat_map turn_output (record_turns platform item);
}
