use Rattle.std.proofs.Common.{ℕ, ◌<◌, map}
use Rattle.spf_incr.specs.Changes.{IsStill}
use Rattle.spf_incr.specs.Tables.{row_at}
use Rattle.spf_incr.proofs.table.changes_nothing.Given as goal

abbrev pub invariant-loop-row : goal.invariant-loop-row
invariant-loop-row l = (slot : ℕ) → slot < l.row-index → IsStill l.hop l.added (row_at (map (λ row. row.items) l.rows) slot)
