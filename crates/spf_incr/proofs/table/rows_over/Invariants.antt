use Rattle.std.proofs.Common.{map}
use Rattle.spf_incr.proofs.TableLemmas.{Made}
use Rattle.spf_incr.proofs.table.rows_over.Given as goal

abbrev pub invariant-loop-member : goal.invariant-loop-member
invariant-loop-member l = Made l.graph l.places.names.items l.members (map (λ row. row.items) l.rows.items) l.member-index
