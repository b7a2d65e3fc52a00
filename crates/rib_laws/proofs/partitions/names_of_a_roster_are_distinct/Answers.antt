use Rattle.rib_laws.proofs.RosterLemmas.{roster-in_order}
use Rattle.rib_laws.proofs.partitions.names_of_a_roster_are_distinct.Goals as goal

pub returns : goal.returns
returns c = record { members = λ text roster is. (roster-in_order text roster is).0; links = λ text roster is. (roster-in_order text roster is).1 }
