-- A turn of a session as the code has it: what it puts out, and what the shards learn by it.
use Rattle.std.specs.Prelude.{◌≡◌, ℕ, ◌<◌, List, [], ◌∷◌, ◌++◌, Bool, length, set, IfSome}
use Rattle.std.specs.List.{AllByRecursion, flat_map}
use Rattle.rcp_base.specs.Feed.{FeedRecord, OutRecord}
use Rattle.rcp_base.specs.Maps.{set_at}
use Rattle.rcp_base.specs.Roster.{RosterOf}
use Rattle.rcp_model.specs.LinkState.{same_number}
use Rattle.rcp_model.specs.Routes.{RouteFields}
use Rattle.rcp_model.specs.ServerRibs.{RibEvent}
use Rattle.rcp_model.specs.Sessions.{SessionState, Moment, answer}
use Rattle.rcp_model.specs.Telling.{IsTold}
use Rattle.feed_meaning.specs.LinkStream.{Lost}
use Rattle.feed_meaning.specs.OutRecords.{messages_to, end_record}
use Rattle.feed_meaning.specs.Platform.{Connections, Platform}
use Rattle.feed_meaning.specs.SessionTurns.{if_open, turn_output, record_turns}
use Rattle.feed_meaning.specs.SessionTurns as defined
use Rattle.session_core.specs.Shown.{doing_of}
use Rattle.platform_laws.specs.Turns.{events_of_seat, shard_events}
use Rattle.platform_core.specs.Open.{OpenOf, IsWhole, AreSeated, sessions_in}
use Rattle.platform_core.specs.declared.sessions.Connection.{Connection}
use Rattle.platform_core.specs.declared.turns.Turn.{Turn}

-- ---- one turn

abbrev pub events_in : Turn → List (RibEvent RouteFields)
events_in turn = events_of_seat turn.seat (doing_of turn.actions)

abbrev pub output_in : Turn → List OutRecord
output_in turn = messages_to turn.number (doing_of turn.actions).sent ++ end_record turn.number (doing_of turn.actions).closed

-- routes have the fields of their octets, and the seat is that of a router of the roster
pub record IsInForm (roster : RosterOf) (turn : Turn) : Type 0 where
  pub told : AllByRecursion (IsTold roster.as_number) (doing_of turn.actions).events
  pub within : IfSome turn.seat (λ slot. slot < length roster.members)

-- ---- the turns of a record

-- The platform of the definitions with these sessions at a time. The turns of a record depend on nothing else.
abbrev pub at_time : RosterOf → ℕ → Connections → Platform
at_time roster time sessions = record {
  roster = roster;
  connections = sessions;
  moment = time;
  stream = Lost;
  link_state = record { routers = [] };
  server = record { tables = []; announcements = []; pending = []; edges = [] };
  updates = 0;
}

abbrev pub turns_at : RosterOf → ℕ → Connections → FeedRecord → List defined.Turn
turns_at roster time sessions item = record_turns (at_time roster time sessions) item

-- the sessions after turns, one after another
abbrev pub sessions_after : List defined.Turn → Connections → Connections
sessions_after [] sessions = sessions
sessions_after (turn ∷ turns) sessions = sessions_after turns (set_at same_number turn.number (if_open turn.answer.after) sessions)

-- These turns do what those of the definitions do: the shards learn of the same, and the same is put out. Those that do nothing may be left out.
pub record DoAs (roster : RosterOf) (turns : List defined.Turn) (taken : List Turn) : Type 0 where
  pub events : flat_map events_in taken ≡ flat_map shard_events turns
  pub output : flat_map output_in taken ≡ flat_map turn_output turns
  pub form : AllByRecursion (IsInForm roster) taken

-- the connections before and after turns, and what was taken of them
pub record Take (roster : RosterOf) (turns : List defined.Turn) (old new : OpenOf) (taken : List Turn) : Type 0 where
  pub after : new ≡ record old { sessions = sessions_after turns old.sessions }
  pub do_as : DoAs roster turns taken

-- The session of the connection at a place took a turn. The others are as they were.
pub record TookTurn (roster : RosterOf) (turn : defined.Turn) (old new : List Connection) (held : List Bool) (place : ℕ) (taken : Turn) : Type 0 where
  pub now : Connection
  pub connections : new ≡ set old place now
  pub whole : IsWhole now
  pub number : now.number ≡ turn.number
  pub after : now.session.state ≡ turn.answer.after
  pub seated : AreSeated (sessions_in new) held
  pub number_is : taken.number ≡ turn.number
  pub seat_is : taken.seat ≡ turn.seat
  pub does : doing_of taken.actions ≡ turn.answer.does
  pub form : IsInForm roster taken

-- a connection after a time
abbrev pub timed_in : RosterOf → ℕ → ℕ × SessionState → ℕ × SessionState
timed_in roster now entry = (entry.0, (answer roster (Moment now) entry.1).after)
