use Rattle.std.proofs.Common.{◌∙◌}
use Rattle.out_table.specs.Places.{table_of}
use Rattle.out_table.proofs.FoundLemmas.{table_new}
use Rattle.out_table.proofs.table.OutTable.new.Goals as goal

pub returns : goal.returns
returns c = (λ i. table_of (c.new-3.ensures.members i) (c.new.ensures.empty i) (c.new-2.ensures.items i) (c.new-3.ensures.items i)) ∙ table_new c.args.members
