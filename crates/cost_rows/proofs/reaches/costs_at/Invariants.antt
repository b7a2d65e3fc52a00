use Rattle.std.proofs.Common.{◌≡◌, map, take, slice_index_or, None}
use Rattle.cost_rows.proofs.reaches.costs_at.Given as goal

abbrev pub invariant-loop-place : goal.invariant-loop-place
invariant-loop-place l = l.costs.items ≡ map (λ place. slice_index_or l.least place None) (take l.place-index l.places)
