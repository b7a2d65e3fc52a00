use Rattle.spf_incr.proofs.EdgeLemmas.{included_again, not_excluded}
use Rattle.igp_view.proofs.following.graph_without.Goals as goal

pub returns-clause-before : goal.returns-clause-before
returns-clause-before c = rw (c.remove-there.ensures.after, c.in_ok-other.ensures) (included_again c.args.edge c.args.graph.now c.edges-edges.ensures.kept c.requires)

pub returns-clause-changed : goal.returns-clause-changed
returns-clause-changed c = rw (c.remove-there.ensures.after, c.in_ok-other.ensures) (not_excluded c.args.edge c.args.graph.now)
