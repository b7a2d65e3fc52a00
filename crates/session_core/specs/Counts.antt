-- How many messages a session handles of what comes.
use Rattle.std.specs.Prelude.{ℕ, ◌-◌, Bool, true, false, List, ◌++◌, length}
use Rattle.rcp_base.specs.Roster.{RosterOf}
use Rattle.rcp_model.specs.Messages.{messages_in}
use Rattle.rcp_model.specs.Sessions.{Phase, OpenSent, Claiming, OpenConfirm, Established, Closed, SessionState, Input, Octets, Seat, Moment, End, handle_all, moment_in}

-- the whole messages of these octets, but those after one that closes the session or claims a seat
unfoldable pub handled_in : RosterOf → ℕ → List ℕ → Phase → ℕ
handled_in roster now octets phase = length (messages_in octets) - length (handle_all roster now (messages_in octets) phase).unread

-- the phase in which the octets that were kept are read, once a claim is answered: none are where the seat is out
abbrev pub confirmed : Bool → ℕ → Phase → Phase
confirmed true now (Claiming since slot terms) = OpenConfirm (record { slot = slot; negotiated = terms; read = now; sent = now })
confirmed false now (Claiming since slot terms) = Closed
confirmed free now (OpenSent since) = Closed
confirmed free now (OpenConfirm peering) = Closed
confirmed free now (Established peering) = Closed
confirmed free now Closed = Closed

-- Octets are read after those that were kept.
abbrev pub handled_at : RosterOf → Input → SessionState → ℕ
handled_at roster (Octets piece now) session = handled_in roster (moment_in session now) (session.kept ++ piece) session.phase
handled_at roster (Seat free now) session = handled_in roster (moment_in session now) session.kept (confirmed free (moment_in session now) session.phase)
handled_at roster (Moment now) session = 0
handled_at roster End session = 0
