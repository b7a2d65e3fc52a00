use Rattle.std.proofs.Common.{take}
use Rattle.replica_law.proofs.RankLemmas.{AreSpokesTo}
use Rattle.replica_law.proofs.partitions.spokes.Given as goal

abbrev pub invariant-loop-router : goal.invariant-loop-router
invariant-loop-router l = AreSpokesTo l.names (take l.router-index l.ranks) l.edges.items
