-- The crate's own lines, as the grammar's.
use Rattle.std.specs.Prelude.{◌≡◌, Result, Ok, Err}
use Rattle.rcp_base.specs.declared.kinds.RosterWhy.{RosterWhy}
use Rattle.rcp_base.specs.Roster.{Line as Said, As, Id, Shards, Hold, Area, Router, Link}
use Rattle.roster.specs.declared.lines.Line.{Line}
use Rattle.roster.specs.declared.lines.Line.TheVariants as line

abbrev pub said_of : Line → Said
said_of (line.As n) = As n
said_of (line.Id a) = Id a
said_of (line.Shards n) = Shards n
said_of (line.Hold n) = Hold n
said_of (line.Area a) = Area a
said_of (line.Router router id) = Router router id
said_of (line.Link from to cost) = Link from to cost

-- what was read is what the grammar says, or its fault
abbrev pub Says : Result Said RosterWhy → Result Line RosterWhy → Type 0
Says said (Ok line) = said ≡ Ok (said_of line)
Says said (Err why) = said ≡ Err why
