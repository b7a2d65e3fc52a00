use Rattle.std.proofs.Common.{ℕ, []}
use Rattle.std.specs.BinaryHeap.{heap_items}
use Rattle.cost_rows.specs.Search.{IsSearch, left}
use Rattle.cost_rows.proofs.search.finish.Given as goal

abbrev pub invariant-loop-next : goal.invariant-loop-next
invariant-loop-next l = record {
  some : (root : ℕ) × IsSearch l.graph l.places.names.items root l.least (heap_items l.waiting) [];
  kept : (root : ℕ) → IsSearch l.graph l.places.names.items root l.fn.least (heap_items l.fn.waiting) [] → IsSearch l.graph l.places.names.items root l.least (heap_items l.waiting) [];
}

abbrev pub decreases-loop-next : goal.decreases-loop-next
decreases-loop-next l = left l.least (heap_items l.waiting)
