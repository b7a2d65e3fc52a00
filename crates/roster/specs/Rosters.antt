-- The roster of a text, as the definitions of the route control server use it.
use Rattle.std.specs.Prelude.{◌≡◌, ℕ, List, Some, None, Result, Ok, Err}
use Rattle.rcp_base.specs.declared.kinds.RosterWhy.TheVariants as why
use Rattle.rcp_base.specs.Roster.{RosterOf, Named, completed, roster_of}
use Rattle.roster.specs.Room.{NamesSome}
use Rattle.roster.specs.declared.refusal.Stop.{Stop}
use Rattle.roster.specs.declared.refusal.Stop.TheVariants as stop
use Rattle.roster.specs.declared.refusal.RosterRefusal.{RosterRefusal}
use Rattle.roster.specs.declared.refusal.RosterRefusal.TheVariants as refusal

-- what is read of a text is its roster, or its first faulty line; memory may be short only where a line takes some
abbrev pub Reads : List ℕ → Result RosterOf RosterRefusal → Type 0
Reads text (Ok roster) = roster_of text ≡ Ok roster
Reads text (Err (refusal.Fault line why)) = roster_of text ≡ Err (record { line = line; why = why })
Reads text (Err refusal.NoMemory) = NamesSome text

-- the roster of what is named, where no setting is missing at the line after the last
abbrev pub Completes : Named → ℕ → Result RosterOf RosterRefusal → Type 0
Completes named line (Ok roster) = completed named ≡ Some roster
Completes named line (Err refused) = (completed named ≡ None) × (refused ≡ refusal.Fault line why.Missing)

-- the refusal that a stop at this line is
abbrev pub IsRefusal : ℕ → Stop → RosterRefusal → Type 0
IsRefusal line (stop.Fault why) refused = refused ≡ refusal.Fault line why
IsRefusal line stop.NoMemory refused = refused ≡ refusal.NoMemory
