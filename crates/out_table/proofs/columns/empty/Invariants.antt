use Rattle.out_table.specs.Columns.{Empties}
use Rattle.out_table.proofs.columns.empty.Given as goal

-- those so far have no route
abbrev pub invariant-loop-place : goal.invariant-loop-place
invariant-loop-place l = Empties l.members l.slot l.place l.fn.numbers.items l.numbers.items
