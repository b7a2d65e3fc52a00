use Rattle.out_table.proofs.HistoryLemmas.{last_values, changed_cells}
use Rattle.out_table.proofs.laws.dirty_cells_are_those_changed.Goals as goal

pub returns-clause-cells : goal.returns-clause-cells
returns-clause-cells c = last_values

pub returns-clause-dirty : goal.returns-clause-dirty
returns-clause-dirty c = changed_cells
