use Rattle.std.proofs.Common.{map, take}
use Rattle.cost_rows.proofs.ReachLemmas.{Renewing}
use Rattle.cost_rows.proofs.reaches.renewed.Given as goal

abbrev pub invariant-loop-slot : goal.invariant-loop-slot
invariant-loop-slot l = Renewing l.graph l.members (map (λ reach. reach.value) l.old) (map (λ reach. reach.value) l.reaches.items) (take l.slot-index l.rows)
