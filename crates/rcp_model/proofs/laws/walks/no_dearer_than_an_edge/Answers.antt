use Rattle.rcp_model.proofs.WalkLemmas.{cost_of_edge}
use Rattle.rcp_model.proofs.laws.walks.no_dearer_than_an_edge.Goals as goal

pub returns : goal.returns
returns c = cost_of_edge
