use Rattle.std.proofs.Common.{◌∙◌}
use Rattle.out_table.specs.Columns.{columns_in}
use Rattle.out_table.proofs.ColumnLemmas.{columns_none}
use Rattle.out_table.proofs.columns.Columns.new.Goals as goal

pub returns-clause-items : goal.returns-clause-items
returns-clause-items c = (λ i. columns_in c.args.members 0 (c.new.ensures.items i) (c.new-2.ensures.items i)) ∙ columns_none c.args.members
