use Rattle.rcp_model.proofs.PackingLemmas.{groups-in_order}
use Rattle.rcp_model.proofs.laws.packing.groups_stand_by_their_least_prefix.Goals as goal

pub returns : goal.returns
returns c = groups-in_order
