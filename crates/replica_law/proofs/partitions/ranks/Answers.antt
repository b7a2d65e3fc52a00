use Rattle.std.proofs.Common.{sym, arith}
use Rattle.rcp_base.specs.declared.names.Edge.{Edge}
use Rattle.replica_law.specs.Ranks.{AreRanked}
use Rattle.replica_law.proofs.RankLemmas.{names_few, ranks_none, ranks_are, ranked_graph, ranked_sorted}
use Rattle.replica_law.proofs.partitions.ranks.Goals as goal
use Rattle.replica_law.proofs.partitions.ranks.Goals.{After-sort}

ranked : (c : After-sort) → AreRanked c.args.graph.now c.args.names.now c.in-Some.root.now c.sort.new.edges.items
ranked c = ranked_sorted c.args.graph.now c.args.names.now c.in-Some.root.now c.in_ok-edges.edges.items c.sort.new.edges.items c.in_ok-edges.ensures c.sort.ensures.kept c.sort.ensures.no_other

pub ranked-requires : goal.ranked-requires
ranked-requires c = let few = names_few c.args.graph.now c.args.names.now c.requires.graph c.requires.rising c.requires.exact in omega (arith, few)

pub from_edges-requires : goal.from_edges-requires
from_edges-requires c =
    ranked_graph c.args.graph.now c.requires.two_way c.args.names.now c.requires.rising c.requires.exact c.in-Some.root.now (sym c.in-Some.ensures.value) c.sort.new.edges.items
    (ranked (goal.at.from_edges-requires c).After-sort) (names_few c.args.graph.now c.args.names.now c.requires.graph c.requires.rising c.requires.exact) c.sort.ensures.rising

pub returns-in_default-clause-ranks : goal.returns-in_default-clause-ranks
returns-in_default-clause-ranks c = ranks_none c.args.graph.now c.args.names.now c.new.result.items c.requires.exact c.in_default.ensures.value c.new.ensures.items

pub returns-clause-ranks : goal.returns-clause-ranks
returns-clause-ranks c =
    ranks_are c.args.graph.now c.requires.two_way c.args.names.now c.requires.rising c.requires.exact c.in-Some.root.now (sym c.in-Some.ensures.value) c.sort.new.edges.items
    (ranked (goal.at.returns-clause-ranks c).After-sort) c.in_ok-row.row.items (rw (sym c.from_edges.ensures) c.in_ok-row.ensures)
