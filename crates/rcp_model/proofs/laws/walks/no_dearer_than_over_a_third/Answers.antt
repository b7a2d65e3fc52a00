use Rattle.rcp_model.proofs.WalkLemmas.{cost_over}
use Rattle.rcp_model.proofs.laws.walks.no_dearer_than_over_a_third.Goals as goal

pub returns : goal.returns
returns c = cost_over
