use Rattle.replica_law.proofs.partitions.Partitions.of.Goals as goal

pub ranks-requires-clause-exact : goal.ranks-requires-clause-exact
ranks-requires-clause-exact c = rw c.as_slice.ensures.value c.in_ok-names.ensures.exact
