use Rattle.std.proofs.Common.{◌≡◌, length}
use Rattle.out_table.specs.Columns.{Roomier}
use Rattle.out_table.proofs.growth.add_slots.Given as goal

-- as many slots as the count says
abbrev pub invariant-loop-i : goal.invariant-loop-i
invariant-loop-i l = (length l.dirty.items ≡ l._i) × Roomier l.fn.dirty.items l.dirty.items
