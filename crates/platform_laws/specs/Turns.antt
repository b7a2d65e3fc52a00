-- What a record does with the sessions of a platform and, for each turn, with its shards.
use Rattle.std.specs.Prelude.{ℕ, List, [], ◌∷◌, ◌++◌, map, Option, Some, None, if◌then◌else◌}
use Rattle.std.specs.List.{AllByRecursion}
use Rattle.rcp_base.specs.Feed.{FeedRecord, is_time, moment_of}
use Rattle.rcp_base.specs.Octets.{AreOctets}
use Rattle.rcp_base.specs.Maps.{set_at}
use Rattle.rcp_model.specs.LinkState.{same_number}
use Rattle.rcp_model.specs.Routes.{RouteFields}
use Rattle.rcp_model.specs.Sessions.{SessionEvent, Announce, Withdraw, Ending, Doing}
use Rattle.rcp_model.specs.Sessions as session
use Rattle.rcp_model.specs.Telling.{IsTold}
use Rattle.rcp_model.specs.ServerRibs.{RibEvent, Up, Down, Change}
use Rattle.feed_meaning.specs.Platform.{Platform}
use Rattle.feed_meaning.specs.SessionTurns.{Turn, if_open, record_turns}
use Rattle.platform_laws.specs.Parts.{shards_after_all}
use Rattle.platform_laws.specs.Platforms.{PlatformOf}

-- The platform of the definitions with these sessions, and with a server to which nothing happened. The turns of a record depend on
-- nothing else.
abbrev pub sessions_alone : PlatformOf → Platform
sessions_alone seen = record {
  roster = seen.roster;
  connections = seen.sessions;
  moment = seen.time;
  stream = seen.stream;
  link_state = seen.link_state;
  server = record { tables = []; announcements = []; pending = []; edges = [] };
  updates = seen.updates;
}

abbrev pub turns_of_record : PlatformOf → FeedRecord → List Turn
turns_of_record seen item = record_turns (sessions_alone seen) item

-- ---- what a turn does to the shards

-- what a router says, as an event of its slot
abbrev pub shard_event : ℕ → SessionEvent → RibEvent RouteFields
shard_event slot session.Up = Up slot
shard_event slot (Announce p route) = Change slot p (Some route)
shard_event slot (Withdraw p) = Change slot p None

abbrev pub end_of_seat : ℕ → Option Ending → List (RibEvent RouteFields)
end_of_seat slot None = []
end_of_seat slot (Some ending) = Down slot ∷ []

abbrev pub events_of_seat : Option ℕ → Doing → List (RibEvent RouteFields)
events_of_seat None does = []
events_of_seat (Some slot) does = map (shard_event slot) does.events ++ end_of_seat slot does.closed

abbrev pub shard_events : Turn → List (RibEvent RouteFields)
shard_events turn = events_of_seat turn.seat turn.answer.does

-- the platform after a turn: the session of its connection, and the events on the shards
abbrev pub seen_after_turn : Turn → PlatformOf → PlatformOf
seen_after_turn turn seen = record seen {
  sessions = set_at same_number turn.number (if_open turn.answer.after) seen.sessions;
  shards = shards_after_all seen.roster (shard_events turn) seen.shards;
}

abbrev pub seen_after_turns : List Turn → PlatformOf → PlatformOf
seen_after_turns [] seen = seen
seen_after_turns (turn ∷ turns) seen = seen_after_turns turns (seen_after_turn turn seen)

-- the platform at the time of a record
abbrev pub noted_at : FeedRecord → PlatformOf → PlatformOf
noted_at item seen = record seen { time = if is_time item.kind then moment_of item.body else seen.time }

-- ---- turns in form

-- the events are in form, with routes that have the fields of their octets, and what is kept for later are octets
pub record IsTurnInForm (as_number : ℕ) (turn : Turn) : Type 0 where
  pub events : AllByRecursion (IsTold as_number) turn.answer.does.events
  pub kept : AreOctets turn.answer.after.kept
