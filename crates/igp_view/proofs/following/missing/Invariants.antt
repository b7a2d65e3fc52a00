use Rattle.std.proofs.Common.{take, ◌⊎◌, Contains}
use Rattle.rcp_base.specs.declared.names.Edge.{Edge}
use Rattle.igp_view.proofs.following.missing.Given as goal

abbrev pub invariant-loop-edge : goal.invariant-loop-edge
invariant-loop-edge l = (edge : Edge) → Contains (take l.edge-index l.edges) edge → Contains l.graph edge ⊎ Contains l.missing.items edge
