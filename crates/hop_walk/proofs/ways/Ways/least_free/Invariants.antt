use Rattle.hop_walk.proofs.StepLemmas.{PassedFree}
use Rattle.hop_walk.proofs.ways.Ways.least_free.Given as goal

abbrev pub invariant-loop-edge : goal.invariant-loop-edge
invariant-loop-edge l = PassedFree l.self.edges l.self.end l.edge-items l.edge-index
