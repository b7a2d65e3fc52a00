-- A greeting: what it has done since the call began.
use Rattle.std.specs.Prelude.{◌≡◌, ℕ, Bool, true, false, List, [], ◌++◌, Option, None, Some, Result, Ok, Err}
use Rattle.rcp_base.specs.Roster.{RosterOf}
use Rattle.rcp_model.specs.Sessions.{Doing}
use Rattle.session_core.specs.Held.{Held}
use Rattle.outside.specs.Told.{Rose}
use Rattle.outbox.specs.Wires.{WireOf, HasRisen}
use Rattle.outbox.specs.Outs.{OutOf, front, counted_on}
use Rattle.session_serve.specs.declared.ends.EndWhy.{EndWhy}
use Rattle.session_serve.specs.Ended.{HadMemory, IsCauseOf, Closes}
use Rattle.session_run.specs.declared.greeting.Greeting.{Greeting}
use Rattle.session_run.specs.Greeted.{Exchange, greeted, does_in, handled_in_exchange, IsExchanged, IsComplete}

-- what is given to the call: the roster, the times that the clock can give, whether the mark may be set, and the link as it is
pub record Given : Type 0 where
  pub roster : RosterOf
  pub can_give : ℕ → Bool
  pub may_stop : Bool
  pub wire : WireOf

abbrev pub given_at : RosterOf → (ℕ → Bool) → Bool → WireOf → Given
given_at roster can_give may_stop wire = record { roster = roster; can_give = can_give; may_stop = may_stop; wire = wire }

-- the greeting at a time of the call: what the session holds, what waits for the link, the seat that is claimed, and how many messages were handled
pub record Now : Type 0 where
  pub held : Held
  pub out : OutOf
  pub wire : WireOf
  pub slot : Option ℕ
  pub messages : ℕ

abbrev pub now_of : Greeting → WireOf → Now
now_of greeting wire = record { held = greeting.session; out = greeting.out; wire = wire; slot = greeting.slot; messages = greeting.messages }

-- What was done by then.
pub record Met (given : Given) (exchange : Exchange) (now : Now) : Type 0 where
  pub exchanged : IsExchanged given.roster given.can_give given.wire now.wire exchange now.out
  pub slot : now.slot ≡ (does_in given.roster exchange).claim
  pub messages : now.messages ≡ counted_on 0 (handled_in_exchange given.roster exchange)
  pub risen : HasRisen given.wire now.wire
  pub failed : now.out.failed ≡ true → Rose given.wire.faults now.wire.faults

-- The greeting goes on: the session isn't closed, and nothing was lost.
pub record Greets (given : Given) (exchange : Exchange) (now : Now) : Type 0 where
  pub met : Met given exchange now
  pub complete : IsComplete exchange
  pub unspent : now.held.spent ≡ false
  pub after : now.held.state ≡ (greeted given.roster exchange).after
  pub going : (does_in given.roster exchange).closed ≡ None

-- It ended.
pub record Parts (given : Given) (exchange : Exchange) (now : Now) (end : EndWhy) : Type 0 where
  pub met : Met given exchange now
  pub complete : HadMemory end → IsComplete exchange
  pub cause : IsCauseOf (does_in given.roster exchange).closed given.may_stop given.wire now.wire end

-- It goes on, or it ended.
abbrev pub GreetsOn : Given → Now → Result (Unit {0}) EndWhy → Type 0
GreetsOn given now (Ok done) = (exchange : Exchange) × Greets given exchange now
GreetsOn given now (Err end) = (exchange : Exchange) × Parts given exchange now end

-- The seat is claimed and nothing waits for the link, or it ended.
abbrev pub RunsTo : Given → Now → Result ℕ EndWhy → Type 0
RunsTo given now (Ok slot) = (exchange : Exchange) × Greets given exchange now × (now.out.waiting ≡ []) × (now.slot ≡ Some slot)
RunsTo given now (Err end) = (exchange : Exchange) × Parts given exchange now end

-- nothing came yet
abbrev pub begun_at : ℕ → Exchange
begun_at start = record { start = start; inputs = []; unheard = []; gone = []; unqueued = [] }

-- The messages of an answer are queued, or there is no memory for them, and it goes on or ends.
pub record Queues (does : Doing) (old new : OutOf) (result : Result (Unit {0}) EndWhy) : Type 0 where
  pub queued : List (List ℕ)
  pub unqueued : List (List ℕ)
  pub all : does.sent ≡ queued ++ unqueued
  pub pushed : new ≡ record old { waiting = old.waiting ++ queued }
  pub same_front : front new ≡ front old
  pub closes : Closes does.closed unqueued result
