use Rattle.std.proofs.Common.{take}
use Rattle.cost_rows.specs.Search.{AreEnds}
use Rattle.cost_rows.proofs.places.ends_in.Given as goal

abbrev pub invariant-loop-edge : goal.invariant-loop-edge
invariant-loop-edge l = AreEnds l.names (take l.edge-index l.edges) l.ends.items
