use Rattle.rib_laws.proofs.JoinLemmas.{join, join_all}
use Rattle.rib_laws.proofs.join.events_are_the_same.Goals as goal

pub returns : goal.returns
returns c = record { one = join; all = join_all }
