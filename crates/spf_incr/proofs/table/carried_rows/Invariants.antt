use Rattle.std.proofs.Common.{◌≡◌, map, take}
use Rattle.cost_rows.specs.Search.{found_at}
use Rattle.spf_incr.proofs.table.carried_rows.Given as goal

abbrev pub invariant-loop-row : goal.invariant-loop-row
invariant-loop-row l = map (λ row. row.items) l.new.items ≡ map (λ row. map (found_at l.old row) l.names) (map (λ row. row.items) (take l.row-index l.rows))
