use Rattle.platform_laws.proofs.WorkSteps.{cells-of_slot, rising-pending, rising-slice}
use Rattle.platform_laws.proofs.work.cells_that_change_are_known_by_their_order.Goals as goal

pub returns : goal.returns
returns c = record { prefixes = cells-of_slot; drain = rising-pending; slice = rising-slice }
