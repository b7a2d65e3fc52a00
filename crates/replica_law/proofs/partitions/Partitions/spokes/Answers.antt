use Rattle.replica_law.proofs.PartitionLemmas.{spokes_of}
use Rattle.replica_law.proofs.partitions.Partitions.spokes.Goals as goal

pub returns : goal.returns
returns c =
    rw (c.edges_from.ensures.edges, ← c.self.view_is)
    (spokes_of c.self.inside.graph c.self.inside.spokes c.args.least c.self.invariant.0 c.self.invariant.3 c.edges_from.ensures.kept.rising (rw (c.self.view_is) c.requires))
