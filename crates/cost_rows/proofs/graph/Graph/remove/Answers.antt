use Rattle.rcp_model.proofs.GraphLemmas.{graph-exclude}
use Rattle.cost_rows.proofs.graph.Graph.remove.Goals as goal

pub invariant_of-self : goal.invariant_of-self
invariant_of-self c = rw c.exclude.ensures.after (graph-exclude c.args.edge c.self.inside.edges.items c.self.invariant)
