-- What leads from the last router to the end leads there from the first one.
use Rattle.std.proofs.Common.{◌++◌, ◌∷◌, ℕ, List, IsSome}
use Rattle.rcp_model.specs.Costs.{cost}
use Rattle.hop_walk.specs.Hops.{IsPath}
use Rattle.hop_walk.proofs.StepLemmas.{cost_left}
use Rattle.hop_walk.proofs.ways.Ways.path_from.Given as goal

abbrev pub invariant-loop-next : goal.invariant-loop-next
invariant-loop-next l = record {
  reached : IsSome (cost l.self.edges l.at l.self.end);
  so_far : (routers : List ℕ) → IsPath l.self.edges l.self.end l.at (l.at ∷ routers) → IsPath l.self.edges l.self.end l.fn.router (l.path.items ++ routers);
}

abbrev pub decreases-loop-next : goal.decreases-loop-next
decreases-loop-next l = cost_left (cost l.self.edges l.at l.self.end)
