use Rattle.std.proofs.Common.{take}
use Rattle.replica_law.specs.Replicas.{replica_of}
use Rattle.replica_law.proofs.DifferenceLemmas.{AreAnswersTo}
use Rattle.replica_law.proofs.agreeing.agree.Given as goal

abbrev pub invariant-loop-least : goal.invariant-loop-least
invariant-loop-least g l =
    AreAnswersTo
    (replica_of (g.X.Assigned.as_number l.first) (g.X.Costs.members l.first) (g.X.Costs.edges l.first) (g.X.Assigned.connected l.first) (g.X.Assigned.announced l.first) (g.X.Assigned.given l.first) (g.X.Assigned.pending l.first))
    (replica_of (g.Y.Assigned.as_number l.second) (g.Y.Costs.members l.second) (g.Y.Costs.edges l.second) (g.Y.Assigned.connected l.second) (g.Y.Assigned.announced l.second) (g.Y.Assigned.given l.second) (g.Y.Assigned.pending l.second))
    (take l.least-index l.least-items) l.answers.items
