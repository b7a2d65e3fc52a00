use Rattle.std.proofs.Common.{◌≡◌, map, take}
use Rattle.cost_rows.proofs.reaches.shared.Given as goal

abbrev pub invariant-loop-reach : goal.invariant-loop-reach
invariant-loop-reach l = map (λ reach. reach.value) l.copies.items ≡ map (λ reach. reach.value) (take l.reach-index l.reaches)
