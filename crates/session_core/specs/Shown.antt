-- The crate's types, as the definitions see them.
use Rattle.std.specs.Prelude.{ℕ, map}
use Rattle.std.specs.Option.{option_map}
use Rattle.rcp_model.specs.Sessions.{Reason, Faulted, Received, Ended, SeatTaken, Ending, ending, SessionEvent, Up, Announce, Withdraw, Doing, Negotiated, Peering, Phase, OpenSent, Claiming, OpenConfirm, Established, Closed}
use Rattle.session_core.specs.declared.actions.Why.{Why}
use Rattle.session_core.specs.declared.actions.Why.TheVariants as why
use Rattle.session_core.specs.declared.actions.Closed.{Closed as ClosedBy}
use Rattle.session_core.specs.declared.actions.SessionEvent.{SessionEvent as Told}
use Rattle.session_core.specs.declared.actions.SessionEvent.TheVariants as told
use Rattle.session_core.specs.declared.actions.Actions.{Actions}
use Rattle.session_core.specs.declared.state.Negotiated.{Negotiated as Terms}
use Rattle.session_core.specs.declared.state.Peering.{Peering as Peered}
use Rattle.session_core.specs.declared.state.State.{State}
use Rattle.session_core.specs.declared.state.State.TheVariants as state
use Rattle.session_core.specs.declared.state.Reading.{Reading}
use Rattle.session_core.specs.declared.state.Reading.TheVariants as reading

abbrev pub reason_of : Why → Reason
reason_of why.Fault = Faulted
reason_of why.Received = Received
reason_of why.End = Ended
reason_of why.SeatOut = SeatTaken

-- the number that an output record has for it
abbrev pub number_of : Why → ℕ
number_of why.Fault = 1
number_of why.Received = 2
number_of why.End = 3
number_of why.SeatOut = 4

abbrev pub ending_of : ClosedBy → Ending
ending_of closed = ending (reason_of closed.why) closed.code closed.sub

abbrev pub event_of : Told → SessionEvent
event_of told.Up = Up
event_of (told.Announce prefix route) = Announce prefix route
event_of (told.Withdraw prefix) = Withdraw prefix

abbrev pub doing_of : Actions → Doing
doing_of actions = record {
  sent = map (λ message. message.items) actions.send.items;
  events = map event_of actions.events.items;
  claim = actions.claim;
  closed = option_map ending_of actions.closed;
}

abbrev pub terms_of : Terms → Negotiated
terms_of terms = record { hold = terms.hold }

abbrev pub peering_of : Peered → Peering
peering_of peered = record { slot = peered.slot; negotiated = terms_of peered.negotiated; read = peered.read; sent = peered.sent }

abbrev pub phase_of : State → Phase
phase_of (state.OpenSent since) = OpenSent since
phase_of (state.Claiming claim) = Claiming claim.since claim.slot (terms_of claim.negotiated)
phase_of (state.OpenConfirm peered) = OpenConfirm (peering_of peered)
phase_of (state.Established peered) = Established (peering_of peered)
phase_of state.Closed = Closed

abbrev pub reading_phase : Reading → Phase
reading_phase (reading.OpenSent since) = OpenSent since
reading_phase (reading.OpenConfirm peered) = OpenConfirm (peering_of peered)
reading_phase (reading.Established peered) = Established (peering_of peered)
