use Rattle.hop_walk.proofs.StepLemmas.{PassedEdges}
use Rattle.hop_walk.proofs.ways.Ways.next_hop.Given as goal

abbrev pub invariant-loop-edge : goal.invariant-loop-edge
invariant-loop-edge l = PassedEdges l.self.edges l.fn.at l.self.end l.total l.edge-items l.edge-index
