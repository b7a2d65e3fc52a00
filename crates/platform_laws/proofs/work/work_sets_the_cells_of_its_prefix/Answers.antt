use Rattle.platform_laws.specs.Parts.{roster_reader}
use Rattle.platform_laws.proofs.ShardWork.{cells-after, waits-after}
use Rattle.platform_laws.proofs.work.work_sets_the_cells_of_its_prefix.Goals as goal

pub returns : goal.returns
returns c = record {
  cells = λ roster ribs p q slot. cells-after (roster_reader roster) ribs p q slot;
  pending = λ roster ribs p q. waits-after (roster_reader roster) ribs p q;
}
