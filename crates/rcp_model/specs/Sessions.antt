-- Sessions (RFC 4271 sections 6 and 8): the states of a connection with a router, and what messages and times do in them.
use Rattle.std.specs.Prelude.{ℕ, ◌-◌, ◌/◌, Bool, true, false, ◌==◌, List, [], ◌∷◌, ◌++◌, length, drop, map, slice_index, position, min, max, Option, Some, None, unwrap_or, is_some, nat_le, if◌then◌else◌}
use Rattle.std.specs.List.{concat}
use Rattle.rcp_base.specs.IpPrefix.{IpPrefix}
use Rattle.rcp_base.specs.declared.names.Member.{Member}
use Rattle.rcp_model.specs.Attributes.{number_width}
use Rattle.rcp_model.specs.Messages.{FaultOf, fault, header_fault, type_field, messages_in, rest_of, message_octets, notification_octets}
use Rattle.rcp_model.specs.Opens.{open_fields, open_fault, open_octets}
use Rattle.rcp_model.specs.Routes.{RouteFields, route_of}
use Rattle.rcp_model.specs.Updates.{Changes, update_fault, changes_of}
use Rattle.rcp_base.specs.Roster.{RosterOf}

-- ---- the states (section 8.2.2). Times are in seconds.

-- what the OPENs of both ends came to: the hold time, 0 where there are no timers
pub record Negotiated : Type 0 where
  pub hold : ℕ

-- A session with the router of a slot: what was negotiated, when a message of it was last read, and when a KEEPALIVE was last sent.
pub record Peering : Type 0 where
  pub slot : ℕ
  pub negotiated : Negotiated
  pub read : ℕ
  pub sent : ℕ

-- OpenSent since a time; Claiming, between OpenSent and OpenConfirm, since that time, with a claim on the seat of the router
-- that sent the OPEN; OpenConfirm; Established; and closed for good
pub data Phase : Type 0 where
  OpenSent : ℕ → Phase
  Claiming : ℕ → ℕ → Negotiated → Phase
  OpenConfirm : Peering → Phase
  Established : Peering → Phase
  Closed : Phase

abbrev pub is_closed : Phase → Bool
is_closed Closed = true
is_closed phase = false

-- messages are read: in Claiming they wait
abbrev pub reads : Phase → Bool
reads Closed = false
reads (Claiming since slot negotiated) = false
reads phase = true

-- A session holds the seat of its router from the claim to its end.
abbrev pub seat_of : Phase → Option ℕ
seat_of (OpenConfirm peering) = Some peering.slot
seat_of (Established peering) = Some peering.slot
seat_of phase = None

-- Its router is connected from Up to its end.
abbrev pub slot_in : Phase → Option ℕ
slot_in (Established peering) = Some peering.slot
slot_in phase = None

-- the octets that came and belong to no message that was read, and the latest time that was given
pub record SessionState : Type 0 where
  pub phase : Phase
  pub kept : List ℕ
  pub latest : ℕ

-- ---- what a session does

pub data Reason : Type 0 where
  Faulted : Reason
  Received : Reason
  Ended : Reason
  SeatTaken : Reason

-- the end, with the code and subcode of the NOTIFICATION that was sent or received
pub record Ending : Type 0 where
  pub reason : Reason
  pub code : ℕ
  pub sub : ℕ

abbrev pub ending : Reason → ℕ → ℕ → Ending
ending reason code sub = record { reason = reason; code = code; sub = sub }

pub data SessionEvent : Type 0 where
  Up : SessionEvent
  Announce : IpPrefix → RouteFields → SessionEvent
  Withdraw : IpPrefix → SessionEvent

-- the messages that are sent, the events, the slot whose seat is claimed, and the end
pub record Doing : Type 0 where
  pub sent : List (List ℕ)
  pub events : List SessionEvent
  pub claim : Option ℕ
  pub closed : Option Ending

abbrev pub nothing : Doing
nothing = record { sent = []; events = []; claim = None; closed = None }

abbrev pub sending : List ℕ → Doing
sending message = record nothing { sent = message ∷ [] }

abbrev pub telling : List SessionEvent → Doing
telling events = record nothing { events = events }

abbrev pub later_of : {A : Type 0} → Option A → Option A → Option A
later_of first None = first
later_of first (Some x) = Some x

-- one thing and then another
abbrev pub then_also : Doing → Doing → Doing
then_also first second = record {
  sent = first.sent ++ second.sent;
  events = first.events ++ second.events;
  claim = later_of first.claim second.claim;
  closed = later_of first.closed second.closed;
}

-- the phase after a message, and what was done
pub record Step : Type 0 where
  pub phase : Phase
  pub does : Doing

abbrev pub step : Phase → Doing → Step
step phase does = record { phase = phase; does = does }

-- ---- ends

-- A fault is sent in a NOTIFICATION and closes the session (section 6).
abbrev pub closing : Reason → FaultOf → Doing
closing reason why = record nothing { sent = notification_octets why ∷ []; closed = Some (ending reason why.code why.sub) }

abbrev pub failed : FaultOf → Step
failed why = step Closed (closing Faulted why)

-- a message that the state doesn't take (section 6.6)
abbrev pub refused : Step
refused = failed (fault 5 0 [])

-- A NOTIFICATION closes the session, and isn't answered (section 6.4). The body begins with code and subcode.
abbrev pub notified : List ℕ → Step
notified body = step Closed (record nothing { closed = Some (ending Received (slice_index body 0) (slice_index body 1)) })

-- ---- messages

abbrev pub OPEN : ℕ
OPEN = 1

abbrev pub UPDATE : ℕ
UPDATE = 2

abbrev pub NOTIFICATION : ℕ
NOTIFICATION = 3

abbrev pub KEEPALIVE : ℕ
KEEPALIVE = 4

abbrev pub body_of : List ℕ → List ℕ
body_of message = drop 19 message

abbrev pub keepalive : List ℕ
keepalive = message_octets KEEPALIVE []

-- the slot of the router with a BGP Identifier
abbrev pub slot_by_identifier : List Member → ℕ → Option ℕ
slot_by_identifier members id = position (λ member. member.bgp_id == id) members

abbrev pub is_known : RosterOf → ℕ → Bool
is_known roster id = is_some (slot_by_identifier roster.members id)

-- the first fault of an OPEN from a router of the roster
abbrev pub opening_fault : RosterOf → List ℕ → Option FaultOf
opening_fault roster body = open_fault (is_known roster) roster.as_number body

-- the hold time is the smaller of the two that were offered (section 4.2)
abbrev pub negotiated : RosterOf → List ℕ → Negotiated
negotiated roster body = record { hold = min roster.hold (open_fields body).hold }

-- An OPEN claims the seat of its router, which the roster knows where the OPEN has no fault.
abbrev pub claimed : ℕ → Negotiated → Option ℕ → Step
claimed since terms slot = step (Claiming since (unwrap_or slot 0) terms) (record nothing { claim = slot })

abbrev pub opened : RosterOf → ℕ → List ℕ → Step
opened roster since body = elim (opening_fault roster body) [
  | Some why ↦ failed why
  | None ↦ claimed since (negotiated roster body) (slot_by_identifier roster.members (open_fields body).id)
]

-- what an UPDATE changes, in order
abbrev pub changes_events : ℕ → Changes → List SessionEvent
changes_events as_number changes =
    map Withdraw changes.withdrawn ++ map (λ p. Announce p (route_of number_width as_number changes.attributes)) changes.announced

abbrev pub updated : RosterOf → Peering → List ℕ → Step
updated roster peering body = elim (update_fault number_width body) [
  | Some why ↦ failed why
  | None ↦ step (Established peering) (telling (changes_events roster.as_number (changes_of body)))
]

abbrev pub read_at : ℕ → Peering → Peering
read_at now peering = record peering { read = now }

-- One message that is read at a time: what each state takes (section 8.2.2).
unfoldable pub handle : RosterOf → ℕ → List ℕ → Phase → Step
handle roster now message (OpenSent since) =
    if type_field message == OPEN then opened roster since (body_of message) else (
    if type_field message == NOTIFICATION then notified (body_of message) else refused)
handle roster now message (OpenConfirm peering) =
    if type_field message == KEEPALIVE then step (Established (read_at now peering)) (telling (Up ∷ [])) else (
    if type_field message == NOTIFICATION then notified (body_of message) else refused)
handle roster now message (Established peering) =
    if type_field message == UPDATE then updated roster (read_at now peering) (body_of message) else (
    if type_field message == KEEPALIVE then step (Established (read_at now peering)) nothing else (
    if type_field message == NOTIFICATION then notified (body_of message) else refused))
handle roster now message phase = step phase nothing

-- ---- octets

-- messages handled in order, until one closes the session or claims a seat: those after it aren't read
pub record Handled : Type 0 where
  pub phase : Phase
  pub does : Doing
  pub unread : List (List ℕ)

unfoldable pub handle_all : RosterOf → ℕ → List (List ℕ) → Phase → Handled
handle_all roster now [] phase = record { phase = phase; does = nothing; unread = [] }
handle_all roster now (message ∷ messages) phase =
    let first = handle roster now message phase in
    let others = handle_all roster now messages first.phase in
    if reads phase
    then record others { does = then_also first.does others.does }
    else record { phase = phase; does = nothing; unread = message ∷ messages }

-- the phase after octets, those that are kept, and what was done
pub record Course : Type 0 where
  pub phase : Phase
  pub kept : List ℕ
  pub does : Doing

-- the fault of the header in front, which is judged as soon as its 19 octets are there
abbrev pub fault_in_front : List ℕ → Option FaultOf
fault_in_front octets = if nat_le 19 (length octets) then header_fault octets else None

-- What is left after the last whole message is kept. Its header may be faulty.
abbrev pub with_fault : List ℕ → Option FaultOf → Phase → Doing → Course
with_fault rest None phase does = record { phase = phase; kept = rest; does = does }
with_fault rest (Some why) phase does = record { phase = Closed; kept = []; does = then_also does (failed why).does }

-- Where a claim waits all octets are kept that weren't read.
abbrev pub with_rest : List ℕ → Phase → Doing → List (List ℕ) → Course
with_rest rest Closed does unread = record { phase = Closed; kept = []; does = does }
with_rest rest (Claiming since slot terms) does unread = record { phase = Claiming since slot terms; kept = concat unread ++ rest; does = does }
with_rest rest phase does unread = with_fault rest (fault_in_front rest) phase does

-- the octets read at a time, from a phase on
unfoldable pub course_of : RosterOf → ℕ → List ℕ → Phase → Course
course_of roster now octets phase =
    let handled = handle_all roster now (messages_in octets) phase in
    with_rest (rest_of octets) handled.phase handled.does handled.unread

-- ---- timers (sections 8.1.3 and 10)

-- so many seconds have passed since a time
abbrev pub has_passed : ℕ → ℕ → ℕ → Bool
has_passed seconds since now = nat_le seconds (now - since)

-- the hold time of a session whose peer's OPEN isn't taken yet
abbrev pub LARGE_HOLD : ℕ
LARGE_HOLD = 240

abbrev pub expired : Step
expired = failed (fault 4 0 [])

-- The hold timer is tested first. A KEEPALIVE is sent each third of the hold time.
abbrev pub timed : (Peering → Phase) → ℕ → Peering → Step
timed phase now peering =
    if peering.negotiated.hold == 0 then step (phase peering) nothing else (
    if has_passed peering.negotiated.hold peering.read now then expired else (
    if has_passed (peering.negotiated.hold / 3) peering.sent now then step (phase (record peering { sent = now })) (sending keepalive) else
    step (phase peering) nothing))

unfoldable pub tick : ℕ → Phase → Step
tick now (OpenSent since) = if has_passed LARGE_HOLD since now then expired else step (OpenSent since) nothing
tick now (Claiming since slot terms) = if has_passed LARGE_HOLD since now then expired else step (Claiming since slot terms) nothing
tick now (OpenConfirm peering) = timed OpenConfirm now peering
tick now (Established peering) = timed Established now peering
tick now Closed = step Closed nothing

-- ---- what comes to a session

-- octets at a time; the answer to its claim, that the seat is free or not; a time alone; the connection's end
pub data Input : Type 0 where
  Octets : List ℕ → ℕ → Input
  Seat : Bool → ℕ → Input
  Moment : ℕ → Input
  End : Input

-- the session afterwards, and what it did
pub record Answer : Type 0 where
  pub after : SessionState
  pub does : Doing

-- A time below the latest one counts as that one.
abbrev pub moment_in : SessionState → ℕ → ℕ
moment_in session now = max session.latest now

abbrev pub answered : ℕ → Course → Answer
answered now course = record { after = record { phase = course.phase; kept = course.kept; latest = now }; does = course.does }

-- a step that reads no octets
abbrev pub stepped : ℕ → List ℕ → Step → Answer
stepped now kept taken = record {
  after = record { phase = taken.phase; kept = if is_closed taken.phase then [] else kept; latest = now };
  does = taken.does;
}

-- the seat is taken (section 6.7: Cease)
abbrev pub seat_taken : Step
seat_taken = step Closed (closing SeatTaken (fault 6 0 []))

-- the seat is free: a KEEPALIVE answers the OPEN, and the octets that waited are read
abbrev pub seated : RosterOf → ℕ → List ℕ → Peering → Course
seated roster now octets peering =
    let course = course_of roster now octets (OpenConfirm peering) in
    record course { does = then_also (sending keepalive) course.does }

-- A claim is answered. There is none in another phase.
abbrev pub claim_answered : RosterOf → Bool → ℕ → List ℕ → Phase → Answer
claim_answered roster true now octets (Claiming since slot terms) =
    answered now (seated roster now octets (record { slot = slot; negotiated = terms; read = now; sent = now }))
claim_answered roster false now octets (Claiming since slot terms) = stepped now octets seat_taken
claim_answered roster free now octets phase = stepped now octets (step phase nothing)

abbrev pub shut : Step
shut = step Closed (record nothing { closed = Some (ending Ended 0 0) })

-- What comes does this. A closed session stays closed, and does nothing.
unfoldable pub answer : RosterOf → Input → SessionState → Answer
answer roster input session = if is_closed session.phase then record { after = session; does = nothing } else open_answer input where
  open_answer : Input → Answer
  open_answer (Octets piece now) = answered (moment_in session now) (course_of roster (moment_in session now) (session.kept ++ piece) session.phase)
  open_answer (Seat free now) = claim_answered roster free (moment_in session now) session.kept session.phase
  open_answer (Moment now) = stepped (moment_in session now) session.kept (tick (moment_in session now) session.phase)
  open_answer End = stepped session.latest session.kept shut

-- one input after another
unfoldable pub answers : RosterOf → List Input → SessionState → Answer
answers roster [] session = record { after = session; does = nothing }
answers roster (input ∷ inputs) session =
    let first = answer roster input session in
    let others = answers roster inputs first.after in
    record others { does = then_also first.does others.does }

-- ---- how sessions begin

-- the OPEN of the platform
abbrev pub own_open : RosterOf → List ℕ
own_open roster = open_octets (record { as_number = roster.as_number; hold = roster.hold; id = roster.id })

-- a connection begins with the platform's OPEN
unfoldable pub begun : RosterOf → ℕ → Answer
begun roster now = record { after = record { phase = OpenSent now; kept = []; latest = now }; does = sending (own_open roster) }

-- a session that is established from its beginning, without timers
unfoldable pub begun_established : ℕ → Answer
begun_established slot = record {
  after = record { phase = Established (record { slot = slot; negotiated = record { hold = 0 }; read = 0; sent = 0 }); kept = []; latest = 0 };
  does = telling (Up ∷ []);
}
