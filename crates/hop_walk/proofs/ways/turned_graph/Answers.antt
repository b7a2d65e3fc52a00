use Rattle.std.proofs.Common.{Contains, map, sym, subst, ap, ◌∙◌}
use Rattle.hop_walk.specs.Ways.{turned, AreTurned}
use Rattle.hop_walk.proofs.TurnLemmas.{turned-are, turned-graph}
use Rattle.hop_walk.proofs.ways.turned_graph.Goals as goal
use Rattle.hop_walk.proofs.ways.turned_graph.Goals.{After-sort}

are : (c : After-sort) → AreTurned c.args.graph.now c.sort.new.edges.items
are c =
    let all = c.in_ok-edges.ensures ∙ ap (map turned) c.edges.ensures.edges in
    turned-are c.args.graph.now c.sort.new.edges.items
    (λ edge member. c.sort.ensures.kept edge (subst (λ es. Contains es edge) (sym all) member))
    (λ edge member. subst (λ es. Contains es edge) all (c.sort.ensures.no_other edge member))

pub from_edges-requires : goal.from_edges-requires
from_edges-requires c =
    turned-graph c.args.graph.now c.sort.new.edges.items c.edges.ensures.kept c.sort.ensures.rising (are (goal.at.from_edges-requires c).After-sort)

pub returns : goal.returns
returns c = rw c.from_edges.ensures (are (goal.at.returns c).After-sort)
