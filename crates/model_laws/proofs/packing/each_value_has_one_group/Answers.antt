use Rattle.model_laws.proofs.GroupLemmas.{groups-distinct, groups-exactly, groups-each}
use Rattle.model_laws.proofs.packing.each_value_has_one_group.Goals as goal

pub returns : goal.returns
returns c = record { distinct = groups-distinct; exactly = groups-exactly; each = groups-each }
