-- What serving a router comes to.
use Rattle.std.specs.Prelude.{◌≡◌, ℕ, ◌<◌, ◌≤◌, Bool, false, [], ◌++◌, length, flat_map, Some}
use Rattle.std.specs.List.{concat, AllByRecursion}
use Rattle.rcp_base.specs.Roster.{RosterOf}
use Rattle.rcp_model.specs.Sessions.{SessionState, Negotiated, Claiming}
use Rattle.session_core.specs.Held.{Held}
use Rattle.session_times.specs.Times.{IsCourseOf, claimed_hold}
use Rattle.outside.specs.Told.{behind}
use Rattle.outbox.specs.Wires.{WireOf}
use Rattle.outbox.specs.Outs.{OutOf, front, updates_in, counted_on}
use Rattle.seats.specs.Seats.{SeatOf, sent_at}
use Rattle.shard_mail.specs.Puts.{IsSameSeat, mails_of, reached_up}
use Rattle.shard_mail.specs.Batches.{own_offers}
use Rattle.session_serve.specs.declared.ends.SessionEnd.{SessionEnd}
use Rattle.session_serve.specs.declared.serving.Serving.{Serving}
use Rattle.session_serve.specs.Deeds.{Deeds, messages_of, said_in, batches_in, octets_in, handled_by, pieces_in, WantedNothing, doing, down_after}
use Rattle.session_serve.specs.Ended.{HadMemory, IsCauseOf, IsWritten, TookOffers, IsExpired}
use Rattle.session_serve.specs.Running.{At, HasBegun}

-- a session that claims the seat of a slot
pub record Claims (slot : ℕ) (held : Held) : Type 0 where
  pub unspent : held.spent ≡ false
  pub since : ℕ
  pub terms : Negotiated
  pub claims : held.state.phase ≡ Claiming since slot terms

abbrev pub at_of : Serving → SeatOf → WireOf → At
at_of serving seat wire = record { held = serving.session; out = serving.out; seat = seat; wire = wire; up = serving.up; messages = serving.messages }

-- What a session that holds its seat does in a call, and how it ends. Of what it had to write this waits still.
pub record IsServed (roster : RosterOf) (can_give : ℕ → Bool) (may_stop : Bool) (session : SessionState) (old new : SeatOf) (before after : WireOf) (end : SessionEnd) (deeds : Deeds) (out : OutOf) : Type 0 where
  -- The seat keeps its slot, its generation and its mailboxes, and the end names the first two.
  pub same : IsSameSeat old new
  pub slot : end.slot ≡ Some old.slot
  pub generation : end.generation ≡ old.generation
  -- what was read is what came to the session
  pub course : IsCourseOf can_give deeds.inputs
  pub read : after.given ≡ behind before.given (octets_in deeds.inputs ++ deeds.unheard)
  -- Put to each shard were the events of the course in order, and then `Down` where it reached Up.
  pub put : (shard : ℕ) → shard < length old.senders
      → sent_at shard new ≡ (sent_at shard old ++ mails_of old (doing roster session deeds).events shard) ++ down_after old (doing roster session deeds).events
  -- The link took the messages of the course and the UPDATEs of the batches up to some octet. The first is a KEEPALIVE.
  pub said : (doing roster session deeds).sent ≡ said_in (pieces_in deeds)
  pub queue : flat_map messages_of (pieces_in deeds) ≡ deeds.gone ++ (out.waiting ++ deeds.unqueued)
  pub taken : after.taken ≡ behind before.taken (concat deeds.gone ++ front out)
  pub begun : HadMemory end.why → HasBegun deeds
  -- The offers of the seat's generation are in the batches, in order and at most 1,024 in each, and no others are. There are none
  -- before Up. All but the last batch are wholly written.
  pub received : new.offers.received ≡ old.offers.received ++ deeds.took
  pub batches : own_offers old.generation deeds.took ≡ flat_map (λ batch. batch) (batches_in (pieces_in deeds)) ++ deeds.unpacked
  pub small : AllByRecursion (λ batch. length batch ≤ 1024) (batches_in (pieces_in deeds))
  pub after_up : reached_up (doing roster session deeds).events ≡ false → batches_in (pieces_in deeds) ≡ []
  pub settled : length (flat_map messages_of deeds.settled) ≤ length deeds.gone
  pub last : length (batches_in deeds.recent) ≤ 1
  -- only want of memory loses octets, messages or offers
  pub wanted : HadMemory end.why → WantedNothing deeds
  -- the end has its cause, and what it says of the link and of offers
  pub cause : IsCauseOf (doing roster session deeds).closed may_stop before after end.why
  pub expired : IsExpired can_give (claimed_hold session.phase) end.why
  pub wrote : IsWritten deeds.gone out.waiting before after end.why
  pub took : TookOffers (reached_up (doing roster session deeds).events) deeds.took old.offers.empties new.offers.empties end.why
  -- the counts
  pub updates : end.updates ≡ counted_on 0 (updates_in deeds.gone)
  pub messages : end.messages ≡ counted_on 0 (handled_by roster deeds.inputs session)
