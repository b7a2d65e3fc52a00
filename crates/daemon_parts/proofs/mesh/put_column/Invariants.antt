-- The first rows have the values that came.
use Rattle.std.proofs.Common.{◌≡◌, length, map}
use Rattle.daemon_parts.specs.Meshes.{HasColumn}
use Rattle.daemon_parts.proofs.mesh.put_column.Given as goal

abbrev pub invariant-loop-value : goal.invariant-loop-value
invariant-loop-value g l = record {
  iterator : (goal.iterator-loop-value g).can_next l.value-iterator × (goal.iterator-loop-value g).is_finite l.value-iterator;
  place : l.place ≡ length l.yielded;
  column : HasColumn l.yielded (map (λ row. row.items) l.initial.rows.items) (map (λ row. row.items) l.rows.items);
}
