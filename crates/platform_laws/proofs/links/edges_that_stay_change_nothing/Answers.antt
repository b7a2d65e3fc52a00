use Rattle.platform_laws.specs.Parts.{roster_reader}
use Rattle.platform_laws.proofs.LinkSteps.{same-edges}
use Rattle.platform_laws.proofs.links.edges_that_stay_change_nothing.Goals as goal

pub returns : goal.returns
returns c = λ roster ribs. same-edges (roster_reader roster) ribs
