use Rattle.rcp_model.proofs.WalkLemmas.{cost-same}
use Rattle.rcp_model.proofs.laws.walks.order_of_edges_is_free.Goals as goal

pub returns : goal.returns
returns c = cost-same
