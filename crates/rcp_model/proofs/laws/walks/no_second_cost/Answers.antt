use Rattle.rcp_model.proofs.WalkLemmas.{IsCost-unique}
use Rattle.rcp_model.proofs.laws.walks.no_second_cost.Goals as goal

pub returns : goal.returns
returns c = IsCost-unique
