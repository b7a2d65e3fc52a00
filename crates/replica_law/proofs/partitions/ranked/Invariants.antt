use Rattle.replica_law.proofs.RankLemmas.{AreRankedTo}
use Rattle.replica_law.proofs.partitions.ranked.Given as goal

abbrev pub invariant-loop-rank : goal.invariant-loop-rank
invariant-loop-rank l = AreRankedTo l.graph l.names l.root l.rank l.edges.items
