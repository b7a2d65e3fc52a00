use Rattle.out_table.specs.Columns.{IsWidened}
use Rattle.out_table.proofs.growth.make_wider.Given as goal

-- those so far have enough room
abbrev pub invariant-loop-slot : goal.invariant-loop-slot
invariant-loop-slot l = IsWidened l.room l.slot l.fn.dirty.items l.dirty.items
