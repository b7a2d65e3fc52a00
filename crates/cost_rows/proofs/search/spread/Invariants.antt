use Rattle.std.proofs.Common.{◌≡◌, ℕ, ◌≤◌, drop, Some, slice_index}
use Rattle.std.specs.BinaryHeap.{heap_items}
use Rattle.rcp_model.specs.Graphs.{edges_from}
use Rattle.cost_rows.specs.Search.{IsSearch, left, found_at}
use Rattle.cost_rows.proofs.search.spread.Given as goal

abbrev pub invariant-loop-k : goal.invariant-loop-k
invariant-loop-k l = record {
  some : (root : ℕ) × IsSearch l.fn.graph l.places.names.items root l.least (heap_items l.waiting) (drop l.k l.run);
  kept : (root : ℕ) → IsSearch l.fn.graph l.places.names.items root l.fn.least (heap_items l.fn.waiting) (edges_from (slice_index l.places.names.items l.fn.place) l.fn.graph)
      → IsSearch l.fn.graph l.places.names.items root l.least (heap_items l.waiting) (drop l.k l.run);
  found : found_at l.places.names.items l.least (slice_index l.places.names.items l.fn.place) ≡ Some l.cost;
  falls : left l.least (heap_items l.waiting) ≤ left l.fn.least (heap_items l.fn.waiting);
}
