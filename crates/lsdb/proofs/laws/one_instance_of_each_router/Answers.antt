use Rattle.lsdb.proofs.ListedLinks.{map-installed, map-aged}
use Rattle.lsdb.proofs.laws.one_instance_of_each_router.Goals as goal

pub returns-clause-at_first : goal.returns-clause-at_first
returns-clause-at_first c = record { once = tt; own = λ router. tt }

pub returns-clause-installed : goal.returns-clause-installed
returns-clause-installed c = map-installed

pub returns-clause-aged : goal.returns-clause-aged
returns-clause-aged c = map-aged
