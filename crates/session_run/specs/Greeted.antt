-- The exchange of OPENs (RFC 4271 sections 4.2 and 8.2.2), until the peer's OPEN claims the seat of its router.
use Rattle.std.specs.Prelude.{◌≡◌, ℕ, ◌<◌, Bool, List, [], ◌∷◌, ◌++◌, length, Some, Result, Ok, Err, IsTrue}
use Rattle.std.specs.List.{concat, AllByRecursion}
use Rattle.rcp_base.specs.Roster.{RosterOf}
use Rattle.rcp_model.specs.Sessions.{Input, Answer, Doing, LARGE_HOLD, begun, answers, own_open, then_also}
use Rattle.session_core.specs.Held.{Held}
use Rattle.session_times.specs.Times.{IsTimely}
use Rattle.outside.specs.Told.{behind}
use Rattle.outbox.specs.Wires.{WireOf}
use Rattle.outbox.specs.Outs.{OutOf, front, counted_on}
use Rattle.session_serve.specs.Deeds.{octets_in, handled_by}
use Rattle.session_serve.specs.Ended.{HadMemory, IsCauseOf, IsWritten, IsExpired}
use Rattle.session_serve.specs.Served.{Claims}
use Rattle.session_serve.specs.declared.ends.SessionEnd.{SessionEnd}

-- What came since the session began, with the octets that it had no memory to handle; of its messages those that are wholly written,
-- and those for which there was no memory.
pub record Exchange : Type 0 where
  pub start : ℕ
  pub inputs : List Input
  pub unheard : List ℕ
  pub gone : List (List ℕ)
  pub unqueued : List (List ℕ)

-- the session that begins at a time and that this comes to, and what it does from its OPEN on
abbrev pub greeted : RosterOf → Exchange → Answer
greeted roster exchange = answers roster exchange.inputs (begun roster exchange.start).after

abbrev pub does_in : RosterOf → Exchange → Doing
does_in roster exchange = then_also (begun roster exchange.start).does (greeted roster exchange).does

abbrev pub handled_in_exchange : RosterOf → Exchange → ℕ
handled_in_exchange roster exchange = handled_by roster exchange.inputs (begun roster exchange.start).after

-- Octets and times of the clock came, and the link took the session's messages up to some octet. Of these this waits still.
pub record IsExchanged (roster : RosterOf) (can_give : ℕ → Bool) (before after : WireOf) (exchange : Exchange) (out : OutOf) : Type 0 where
  pub started : IsTrue (can_give exchange.start)
  pub timely : AllByRecursion (IsTimely can_give) exchange.inputs
  pub read : after.given ≡ behind before.given (octets_in exchange.inputs ++ exchange.unheard)
  pub queue : (does_in roster exchange).sent ≡ exchange.gone ++ (out.waiting ++ exchange.unqueued)
  pub taken : after.taken ≡ behind before.taken (concat exchange.gone ++ front out)

-- Nothing was lost.
pub record IsComplete (exchange : Exchange) : Type 0 where
  pub unheard : exchange.unheard ≡ []
  pub unqueued : exchange.unqueued ≡ []

-- The peer's OPEN, which is the one message that was handled, claims the seat of a router of the roster. The platform's OPEN is wholly
-- written, and nothing else.
pub record IsOpened (roster : RosterOf) (can_give : ℕ → Bool) (before after : WireOf) (session : Held) (slot : ℕ) (exchange : Exchange) (out : OutOf) : Type 0 where
  pub exchanged : IsExchanged roster can_give before after exchange out
  pub complete : IsComplete exchange
  pub state : session.state ≡ (greeted roster exchange).after
  pub claim : (does_in roster exchange).claim ≡ Some slot
  pub claims : Claims slot session
  pub known : slot < length roster.members
  pub one : handled_in_exchange roster exchange ≡ 1
  pub written : exchange.gone ≡ own_open roster ∷ []
  pub none_waits : out.waiting ≡ []

-- It ended before.
pub record IsUnopened (roster : RosterOf) (can_give : ℕ → Bool) (may_stop : Bool) (before after : WireOf) (end : SessionEnd) (exchange : Exchange) (out : OutOf) : Type 0 where
  pub exchanged : IsExchanged roster can_give before after exchange out
  pub complete : HadMemory end.why → IsComplete exchange
  pub slot : end.slot ≡ (does_in roster exchange).claim
  pub generation : end.generation ≡ 0
  pub messages : end.messages ≡ counted_on 0 (handled_in_exchange roster exchange)
  pub updates : end.updates ≡ 0
  pub cause : IsCauseOf (does_in roster exchange).closed may_stop before after end.why
  pub wrote : IsWritten exchange.gone out.waiting before after end.why
  pub expired : IsExpired can_give LARGE_HOLD end.why

abbrev pub IsGreeted : RosterOf → (ℕ → Bool) → Bool → WireOf → WireOf → Result (Held × ℕ) SessionEnd → Type 0
IsGreeted roster can_give may_stop before after (Ok opened) = (exchange : Exchange) × (out : OutOf) × IsOpened roster can_give before after opened.0 opened.1 exchange out
IsGreeted roster can_give may_stop before after (Err end) = (exchange : Exchange) × (out : OutOf) × IsUnopened roster can_give may_stop before after end exchange out
