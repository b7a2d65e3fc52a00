use Rattle.rcp_model.proofs.PackingLemmas.{groups-filled}
use Rattle.rcp_model.proofs.laws.packing.packed_updates_are_filled.Goals as goal

pub returns : goal.returns
returns c = groups-filled
