-- What taking a line gives.
use Rattle.std.specs.Prelude.{◌≡◌, ℕ, List, IsTrue, Some, Result, Ok, Err}
use Rattle.rcp_base.specs.declared.kinds.RosterWhy.{RosterWhy}
use Rattle.rcp_base.specs.Checks.{unless}
use Rattle.rcp_base.specs.Roster.{Line, Named, RosterOf, line_of, line_fault, with_line, with_any_text}
use Rattle.roster.specs.Room.{says_room}
use Rattle.roster.specs.declared.rosters.Settings.{Settings}
use Rattle.roster.specs.declared.refusal.Stop.{Stop}
use Rattle.roster.specs.declared.refusal.Stop.TheVariants as stop

-- what is named then, or the fault of the line
abbrev pub Takes : Result Named RosterWhy → Named → Result (Unit {0}) Stop → Type 0
Takes named after (Ok done) = named ≡ Ok after
Takes named after (Err (stop.Fault why)) = named ≡ Err why
Takes named after (Err stop.NoMemory) = Unit {0}

abbrev pub TakesLine : Named → Line → Named → Result (Unit {0}) Stop → Type 0
TakesLine before line after result = Takes (unless (line_fault before line) (with_line before line)) after result

-- memory was short for a faultless line of a router or of a link
pub record IsShort (named : Named) (text : List ℕ) : Type 0 where
  pub more : Named
  pub faultless : with_any_text named text ≡ Ok more
  pub names : IsTrue (says_room (line_of text))

-- the roster of these settings and what is named besides
abbrev pub settled : Settings → Named → RosterOf
settled settings named = record {
  as_number = settings.as_number;
  id = settings.id;
  shards = settings.shards;
  hold = settings.hold;
  area = settings.area;
  members = named.members;
  links = named.links;
}

-- these settings are the ones that are named
pub record AreNamed (settings : Settings) (named : Named) : Type 0 where
  pub as_number : named.as_number ≡ Some settings.as_number
  pub id : named.id ≡ Some settings.id
  pub shards : named.shards ≡ Some settings.shards
  pub hold : named.hold ≡ Some settings.hold
