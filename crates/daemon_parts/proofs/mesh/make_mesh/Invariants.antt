-- The mailboxes so far.
use Rattle.std.proofs.Common.{map}
use Rattle.daemon_parts.specs.Meshes.{IsMesh}
use Rattle.daemon_parts.proofs.mesh.make_mesh.Given as goal

abbrev pub invariant-loop : goal.invariant-loop
invariant-loop g l = IsMesh l.counter l.senders l.room (map (λ row. row.items) l.rows.items) l.receivers.items
