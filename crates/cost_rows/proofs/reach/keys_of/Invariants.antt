use Rattle.cost_rows.specs.Views.{cost_at}
use Rattle.cost_rows.proofs.KeyLemmas.{Keyed}
use Rattle.cost_rows.proofs.reach.keys_of.Given as goal

abbrev pub invariant-loop-slot : goal.invariant-loop-slot
invariant-loop-slot l = Keyed l.members (cost_at l.costs) l.keys.items l.slot
