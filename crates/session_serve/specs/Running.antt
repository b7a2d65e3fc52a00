-- A session that is served: what it has done since the call began.
use Rattle.std.specs.Prelude.{◌≡◌, ℕ, ◌+◌, ◌<◌, ◌≤◌, Bool, true, false, List, [], ◌∷◌, ◌++◌, length, flat_map, nat_lt, None, Result, Ok, Err}
use Rattle.std.specs.List.{concat, AllByRecursion}
use Rattle.rcp_base.specs.Roster.{RosterOf}
use Rattle.rcp_model.specs.Sessions.{SessionState, Input, Seat, Doing, answers, keepalive}
use Rattle.session_core.specs.Held.{Held}
use Rattle.session_times.specs.Times.{IsCourseOf}
use Rattle.outside.specs.Told.{behind, Rose}
use Rattle.outbox.specs.Wires.{WireOf, HasRisen, HasNotFallen}
use Rattle.outbox.specs.Outs.{OutOf, WritesSome, front, updates_in, counted_on, HasMore}
use Rattle.seats.specs.Seats.{SeatOf, sent_at}
use Rattle.shard_mail.specs.Puts.{IsSameSeat, mails_of, reached_up}
use Rattle.shard_mail.specs.Batches.{own_offers}
use Rattle.session_serve.specs.declared.ends.EndWhy.{EndWhy}
use Rattle.session_serve.specs.Deeds.{Deeds, Piece, Said, messages_of, said_in, batches_in, octets_in, handled_by, pieces_in, WantedNothing, doing}
use Rattle.session_serve.specs.Ended.{HadMemory, IsCauseOf, HasTaken, TookOffers, Closes}

-- what is given to the call: the roster, the times that the clock can give, whether the mark may be set, and the session, the seat and the link as they are
pub record Start : Type 0 where
  pub roster : RosterOf
  pub can_give : ℕ → Bool
  pub may_stop : Bool
  pub session : SessionState
  pub seat : SeatOf
  pub wire : WireOf

abbrev pub start_at : RosterOf → (ℕ → Bool) → Bool → SessionState → SeatOf → WireOf → Start
start_at roster can_give may_stop session seat wire = record { roster = roster; can_give = can_give; may_stop = may_stop; session = session; seat = seat; wire = wire }

-- the session at a time of the call: what it holds, what waits for the link, whether it reached Up, and how many messages it handled
pub record At : Type 0 where
  pub held : Held
  pub out : OutOf
  pub seat : SeatOf
  pub wire : WireOf
  pub up : Bool
  pub messages : ℕ

abbrev pub does_by : Start → Deeds → Doing
does_by start deeds = doing start.roster start.session deeds

-- What was done by then.
pub record Done (start : Start) (deeds : Deeds) (at : At) : Type 0 where
  -- what was read is what came to the session
  pub course : IsCourseOf start.can_give deeds.inputs
  pub read : at.wire.given ≡ behind start.wire.given (octets_in deeds.inputs ++ deeds.unheard)
  pub messages : at.messages ≡ counted_on 0 (handled_by start.roster deeds.inputs start.session)
  -- the events of the course were put to the shards
  pub same : IsSameSeat start.seat at.seat
  pub put : (shard : ℕ) → shard < length start.seat.senders → sent_at shard at.seat ≡ sent_at shard start.seat ++ mails_of start.seat (does_by start deeds).events shard
  pub up : at.up ≡ reached_up (does_by start deeds).events
  -- the messages of the course and the UPDATEs of the batches are written, or wait, or there was no memory for them
  pub said : (does_by start deeds).sent ≡ said_in (pieces_in deeds)
  pub queue : flat_map messages_of (pieces_in deeds) ≡ deeds.gone ++ (at.out.waiting ++ deeds.unqueued)
  pub taken : at.wire.taken ≡ behind start.wire.taken (concat deeds.gone ++ front at.out)
  pub updates : HasMore 0 (updates_in deeds.gone) at.out.updates
  -- the offers of the seat's generation are in the batches, of which all but the last are wholly written
  pub received : at.seat.offers.received ≡ start.seat.offers.received ++ deeds.took
  pub batches : own_offers start.seat.generation deeds.took ≡ flat_map (λ batch. batch) (batches_in (pieces_in deeds)) ++ deeds.unpacked
  pub small : AllByRecursion (λ batch. length batch ≤ 1024) (batches_in (pieces_in deeds))
  pub after_up : reached_up (does_by start deeds).events ≡ false → batches_in (pieces_in deeds) ≡ []
  pub settled : length (flat_map messages_of deeds.settled) ≤ length deeds.gone
  pub last : length (batches_in deeds.recent) ≤ 1
  -- no count fell
  pub risen : HasRisen start.wire at.wire
  pub failed : at.out.failed ≡ true → Rose start.wire.faults at.wire.faults
  pub empties : HasNotFallen start.seat.offers.empties at.seat.offers.empties

-- Of the recent pieces those up to the batch, if there is one, and the others. The outbox knows how many messages wait up to it.
pub record Waits (deeds : Deeds) (at : At) : Type 0 where
  pub up_to_batch : List Piece
  pub others : List Piece
  pub all : deeds.recent ≡ up_to_batch ++ others
  pub none : batches_in others ≡ []
  pub within : length (flat_map messages_of (deeds.settled ++ up_to_batch)) ≤ length deeds.gone + at.out.to_last_update

-- The session runs on: it isn't closed, and nothing was lost.
pub record Runs (start : Start) (deeds : Deeds) (at : At) : Type 0 where
  pub done : Done start deeds at
  pub wanted : WantedNothing deeds
  pub unspent : at.held.spent ≡ false
  pub after : at.held.state ≡ (answers start.roster deeds.inputs start.session).after
  pub going : (does_by start deeds).closed ≡ None
  pub waits : Waits deeds at
  pub offers : nat_lt 0 at.out.to_last_update ≡ true → HasTaken deeds.took start.seat.offers.empties at.seat.offers.empties

-- Its claim was answered with the seat, and a KEEPALIVE is the first message (RFC 4271 section 8.2.2).
pub record HasBegun (deeds : Deeds) : Type 0 where
  pub now : ℕ
  pub inputs : List Input
  pub more : List Piece
  pub claim : deeds.inputs ≡ Seat true now ∷ inputs
  pub first : pieces_in deeds ≡ Said keepalive ∷ more

-- a session that was up has taken offers
abbrev pub HasOffers : Start → Deeds → At → Type 0
HasOffers start deeds at = at.up ≡ true → HasTaken deeds.took start.seat.offers.empties at.seat.offers.empties

-- The session ended.
pub record Ends (start : Start) (deeds : Deeds) (at : At) (end : EndWhy) : Type 0 where
  pub done : Done start deeds at
  pub wanted : HadMemory end → WantedNothing deeds
  pub begun : HadMemory end → HasBegun deeds
  pub cause : IsCauseOf (does_by start deeds).closed start.may_stop start.wire at.wire end
  pub took : TookOffers at.up deeds.took start.seat.offers.empties at.seat.offers.empties end

-- It goes on, or it ended.
abbrev pub Goes : Start → At → Result (Unit {0}) EndWhy → Type 0
Goes start at (Ok done) = (deeds : Deeds) × Runs start deeds at × HasBegun deeds
Goes start at (Err end) = (deeds : Deeds) × Ends start deeds at end

-- Offers were taken where the session is up, and it goes on, or it ended.
abbrev pub AddsOffers : Start → At → Result (Unit {0}) EndWhy → Type 0
AddsOffers start at (Ok done) = (deeds : Deeds) × Runs start deeds at × HasBegun deeds × HasOffers start deeds at
AddsOffers start at (Err end) = (deeds : Deeds) × Ends start deeds at end

-- What a session does by one answer: messages are written meanwhile, its own are queued, and it goes on or ends.
pub record Acts (does : Doing) (old new : OutOf) (before after : WireOf) (result : Result (Unit {0}) EndWhy) : Type 0 where
  pub between : OutOf
  pub written : WritesSome old between before after
  pub queued : List (List ℕ)
  pub unqueued : List (List ℕ)
  pub all : does.sent ≡ queued ++ unqueued
  pub pushed : new ≡ record between { waiting = between.waiting ++ queued }
  pub same_front : front new ≡ front between
  pub closes : Closes does.closed unqueued result
