use Rattle.std.proofs.Common.{inl, refl}
use Rattle.rcp_model.proofs.GraphLemmas.{include-member}
use Rattle.spf_incr.proofs.EdgeLemmas.{excluded_again}
use Rattle.igp_view.proofs.following.graph_with.Goals as goal

pub returns-clause-before : goal.returns-clause-before
returns-clause-before c = rw (c.in_ok-add.ensures.ok, c.in_ok-other.ensures) (excluded_again c.args.edge c.args.graph.now c.edges-edges.ensures.kept c.requires.absent)

pub returns-clause-changed : goal.returns-clause-changed
returns-clause-changed c = rw (c.in_ok-add.ensures.ok, c.in_ok-other.ensures) (include-member c.args.edge c.args.graph.now c.args.edge (inl refl))
