use Rattle.std.proofs.Common.{refl}
use Rattle.rcp_model.specs.Updates.{update_octets}
use Rattle.rcp_model.specs.Packing.{update_of, groups, packed}
use Rattle.update_pack.proofs.laws.two_prefixes_share_an_update.Goals as goal

pub returns : goal.returns
unfolding update_octets update_of groups packed
returns c = record { announced = refl; withdrawn = refl }
