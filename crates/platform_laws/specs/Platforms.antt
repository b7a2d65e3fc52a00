-- A platform by what can be asked of it: the server in shards, and no order in which anything came.
use Rattle.std.specs.Prelude.{◌≡◌, ℕ, List, [], ◌∷◌, min, None}
use Rattle.std.specs.List.{AllByRecursion}
use Rattle.rcp_base.specs.Octets.{AreOctets}
use Rattle.rcp_base.specs.Roster.{RosterOf}
use Rattle.rcp_base.specs.Maps.{get_at}
use Rattle.rcp_model.specs.Rising.{IsRising}
use Rattle.rcp_model.specs.LinkState.{LinkState, same_number}
use Rattle.rcp_model.specs.Routes.{RouteFields}
use Rattle.rcp_model.specs.Updates.{Table}
use Rattle.rcp_model.specs.ServerRibs.{Ribs, ribs_of}
use Rattle.lsdb.specs.Databases.{Holds}
use Rattle.feed_meaning.specs.LinkStream.{LinkStream, Reading, Lost}
use Rattle.feed_meaning.specs.Platform.{Connections, Platform}
use Rattle.feed_meaning.specs.OutRecords.{MOST}
use Rattle.platform_laws.specs.Parts.{AreParts}

-- The roster; the sessions of the open connections, by rising number; the latest time in seconds; the stream of link state and
-- what is kept of it; the server of each shard, by number; and how many UPDATEs were put out.
pub record PlatformOf : Type 0 where
  pub roster : RosterOf
  pub sessions : Connections
  pub time : ℕ
  pub stream : LinkStream
  pub link_state : LinkState
  pub shards : List (Ribs RouteFields)
  pub updates : ℕ

-- the stream of link state with its place as it is put out: eight octets hold no greater one
abbrev pub capped_stream : LinkStream → LinkStream
capped_stream (Reading held place) = Reading held (min place MOST)
capped_stream Lost = Lost

-- no slot has two tables
abbrev pub AreOnce : List (ℕ × Table) → Type 0
AreOnce [] = Unit {0}
AreOnce (entry ∷ tables) = (get_at same_number entry.0 tables ≡ None) × AreOnce tables

-- the octets that sessions keep for later
abbrev pub KeepOctets : Connections → Type 0
KeepOctets connections = AllByRecursion (λ entry. AreOctets entry.1.kept) connections

-- What can be asked of a platform of the definitions is this. The order of its announcements, of its tables and of the routers of its link
-- state is left open. Its pending prefixes rise, and no slot has two tables.
pub record IsSeen (platform : Platform) (seen : PlatformOf) : Type 0 where
  pub roster : seen.roster ≡ platform.roster
  pub sessions : seen.sessions ≡ platform.connections
  pub time : seen.time ≡ platform.moment
  pub stream : seen.stream ≡ capped_stream platform.stream
  pub link_state : Holds seen.link_state platform.link_state
  pub shards : AreParts platform.roster (ribs_of platform.server) seen.shards
  pub updates : seen.updates ≡ platform.updates
  pub rising : IsRising platform.server.pending
  pub once : AreOnce platform.server.tables
  pub octets : KeepOctets platform.connections
