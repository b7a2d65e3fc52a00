use Rattle.std.proofs.Common.{map}
use Rattle.spf_incr.proofs.FollowLemmas.{Following}
use Rattle.spf_incr.proofs.table.follow_all.Given as goal

abbrev pub invariant-loop-slot : goal.invariant-loop-slot
invariant-loop-slot l = Following l.graph l.places.names.items l.members (map (λ row. row.items) l.fn.rows) (map (λ row. row.items) l.rows) l.pairs.items l.slot
