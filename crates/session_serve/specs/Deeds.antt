-- What a session that holds its seat does in one call: what came to it, what it put to the shards, and what was to be written.
use Rattle.std.specs.Prelude.{◌≡◌, ℕ, ◌+◌, Bool, List, [], ◌∷◌, ◌++◌, if◌then◌else◌}
use Rattle.rcp_base.specs.Roster.{RosterOf}
use Rattle.rcp_model.specs.declared.rcs_mail.ShardMail.TheVariants as mail
use Rattle.rcp_model.specs.Routes.{OfferFields}
use Rattle.rcp_model.specs.Sessions.{SessionState, SessionEvent, Input, Octets, Seat, Moment, End, Doing, answer, answers}
use Rattle.session_core.specs.Counts.{handled_at}
use Rattle.seats.specs.Mails.{Mail}
use Rattle.seats.specs.Seats.{SeatOf}
use Rattle.shard_mail.specs.Puts.{reached_up}
use Rattle.shard_mail.specs.Batches.{updates_of}

-- ---- what came to the session

-- the octets of what came
abbrev pub octets_in : List Input → List ℕ
octets_in [] = []
octets_in (Octets piece now ∷ inputs) = piece ++ octets_in inputs
octets_in (Seat free now ∷ inputs) = octets_in inputs
octets_in (Moment now ∷ inputs) = octets_in inputs
octets_in (End ∷ inputs) = octets_in inputs

-- how many messages are handled of what came
unfoldable pub handled_by : RosterOf → List Input → SessionState → ℕ
handled_by roster [] session = 0
handled_by roster (input ∷ inputs) session = handled_at roster input session + handled_by roster inputs (answer roster input session).after

-- ---- what was put to the shards

-- `Down` to each shard, where the session reached Up
abbrev pub down_if : Bool → ℕ → ℕ → List Mail
down_if up slot shard = if up then mail.Down slot ∷ [] else []

abbrev pub down_after : SeatOf → List SessionEvent → List Mail
down_after seat events = if reached_up events then mail.Down seat.slot ∷ [] else []

-- ---- what was to be written

-- a message of the session, or the offers of a batch in UPDATEs
pub data Piece : Type 0 where
  Said : List ℕ → Piece
  Offered : List OfferFields → Piece

abbrev pub messages_of : Piece → List (List ℕ)
messages_of (Said message) = message ∷ []
messages_of (Offered batch) = updates_of batch

-- the messages of the session among these
abbrev pub said_in : List Piece → List (List ℕ)
said_in [] = []
said_in (Said message ∷ pieces) = message ∷ said_in pieces
said_in (Offered batch ∷ pieces) = said_in pieces

-- the batches among these
abbrev pub batches_in : List Piece → List (List OfferFields)
batches_in [] = []
batches_in (Said message ∷ pieces) = batches_in pieces
batches_in (Offered batch ∷ pieces) = batch ∷ batches_in pieces

-- ---- the account of a call

-- What came to the session, with the octets that it had no memory to handle; what was to be written, with at most one batch among
-- the recent ones; of its messages those that are wholly written, and those for which there was no memory; the offers that were taken,
-- and those of the last batch that there was no memory to pack.
pub record Deeds : Type 0 where
  pub inputs : List Input
  pub unheard : List ℕ
  pub settled : List Piece
  pub recent : List Piece
  pub gone : List (List ℕ)
  pub unqueued : List (List ℕ)
  pub took : List (ℕ × OfferFields)
  pub unpacked : List OfferFields

-- nothing was done yet
abbrev pub no_deeds : Deeds
no_deeds = record { inputs = []; unheard = []; settled = []; recent = []; gone = []; unqueued = []; took = []; unpacked = [] }

abbrev pub pieces_in : Deeds → List Piece
pieces_in deeds = deeds.settled ++ deeds.recent

-- no octet was lost, no message and no offer
pub record WantedNothing (deeds : Deeds) : Type 0 where
  pub unheard : deeds.unheard ≡ []
  pub unqueued : deeds.unqueued ≡ []
  pub unpacked : deeds.unpacked ≡ []

-- what the session does by all that came (RFC 4271 section 8)
abbrev pub doing : RosterOf → SessionState → Deeds → Doing
doing roster session deeds = (answers roster deeds.inputs session).does
