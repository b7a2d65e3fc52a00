use Rattle.replica_law.proofs.tests.recorded.make_recorded.Goals as goal

pub invariant_of-result : goal.invariant_of-result
invariant_of-result c = (rw c.in_ok-view.ensures c.in_ok-graph.ensures, c.in_ok-route.ensures)
