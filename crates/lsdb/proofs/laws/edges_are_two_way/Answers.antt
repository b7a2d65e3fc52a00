use Rattle.lsdb.proofs.ListedLinks.{edges-rising, edges-members}
use Rattle.lsdb.proofs.laws.edges_are_two_way.Goals as goal

pub returns-clause-rising : goal.returns-clause-rising
returns-clause-rising c = edges-rising

pub returns-clause-members : goal.returns-clause-members
returns-clause-members c = edges-members
