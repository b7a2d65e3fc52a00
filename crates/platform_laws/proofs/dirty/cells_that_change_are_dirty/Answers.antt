use Rattle.platform_laws.specs.Parts.{roster_reader}
use Rattle.platform_laws.proofs.DirtyCells.{dirty-all}
use Rattle.platform_laws.proofs.dirty.cells_that_change_are_dirty.Goals as goal

pub returns : goal.returns
returns c = λ roster prefixes ribs dirty p slot. dirty-all (roster_reader roster) prefixes ribs dirty p slot
