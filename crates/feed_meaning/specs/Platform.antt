-- The platform of a recorded feed: the sessions of its connections, the link state, and the route control server.
use Rattle.std.specs.Prelude.{ℕ, List, [], Option, Some, None}
use Rattle.rcp_base.specs.Feed.{OutRecord}
use Rattle.rcp_base.specs.Roster.{RosterOf}
use Rattle.rcp_base.specs.Maps.{get_at}
use Rattle.rcp_model.specs.LinkState.{LinkState, same_number}
use Rattle.rcp_model.specs.Edges.{rising_edges}
use Rattle.rcp_model.specs.Sessions.{SessionState, slot_in}
use Rattle.rcp_model.specs.RouteServer.{Domain, Server}
use Rattle.feed_meaning.specs.LinkStream.{LinkStream, Reading}

-- The sessions of the connections that are open, by rising number
abbrev pub Connections : Type 0
Connections = List (ℕ × SessionState)

-- The roster, the connections, the latest time in seconds, the stream of link state and what is kept of it, the server, and how
-- many UPDATEs were put out.
pub record Platform : Type 0 where
  pub roster : RosterOf
  pub connections : Connections
  pub moment : ℕ
  pub stream : LinkStream
  pub link_state : LinkState
  pub server : Server
  pub updates : ℕ

abbrev pub domain_of : RosterOf → Domain
domain_of roster = record { as_number = roster.as_number; members = roster.members }

-- no connection was opened, no link state came, and the edges are the roster's
abbrev pub fresh : RosterOf → Platform
fresh roster = record {
  roster = roster;
  connections = [];
  moment = 0;
  stream = Reading [] 0;
  link_state = record { routers = [] };
  server = record { tables = []; announcements = []; pending = []; edges = rising_edges roster.links };
  updates = 0;
}

abbrev pub slot_of_session : Option SessionState → Option ℕ
slot_of_session None = None
slot_of_session (Some session) = slot_in session.phase

-- the slot that is connected on the connection of a number
abbrev pub slot_on : Connections → ℕ → Option ℕ
slot_on connections number = slot_of_session (get_at same_number number connections)

-- what a record comes to: the platform after it, and what is put out for it
pub record Acted : Type 0 where
  pub after : Platform
  pub out : List OutRecord

abbrev pub nothing_done : Platform → Acted
nothing_done platform = record { after = platform; out = [] }
