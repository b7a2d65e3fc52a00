use Rattle.rcp_model.proofs.PackingLemmas.{packed-carries}
use Rattle.rcp_model.proofs.laws.packing.packed_updates_carry_the_cells.Goals as goal

pub returns : goal.returns
returns c = packed-carries
