use Rattle.std.proofs.Common.{◌≡◌, ◌+◌, ◌<◌, ℕ, List, ◌++◌, ◌∷◌, [], length, get_or, take, refl, sym, ap, subst, ◌∙◌, arith}
use Rattle.std.proofs.lemmas.Option.{slice_get_read, slice_get_within}
use Rattle.std.proofs.lemmas.List.{take_more, take_all}
use Rattle.replica_law.specs.Steps.{AreSpokes}
use Rattle.replica_law.specs.Ranks.{AreRanks}
use Rattle.replica_law.proofs.RankLemmas.{AreSpokesTo, spokes_none, spokes_more, spokes_all, spokes_graph, spokes_sorted, rank_within}
use Rattle.replica_law.proofs.partitions.spokes.Goals as goal
use Rattle.replica_law.proofs.partitions.spokes.Goals.{After-sort}

pub loop-router-init : goal.loop-router-init
loop-router-init c = spokes_none c.args.names.now [] c.new-edges.result.items refl c.new-edges.ensures.items

pub bounds-names-rank : goal.bounds-names-rank
bounds-names-rank c = rank_within c.args.graph.now c.args.names.now c.args.ranks.now c.loop-router.router-index c.loop-router-item.result c.requires.ranks c.loop-router-test.true c.loop-router-item.is

pub loop-router-preserved : goal.loop-router-preserved
loop-router-preserved c =
    spokes_more c.args.names.now (take c.loop-router.router-index c.args.ranks.now) (take (c.loop-router.router-index + 1) c.args.ranks.now) c.loop-router-item.result c.index-names-rank.result
    c.loop-router.edges.items c.push.new.self.items c.loop-router.invariant
    (slice_get_read c.args.names.now _ c.loop-router-item.result.1 c.index-names-rank.result refl
    (rank_within c.args.graph.now c.args.names.now c.args.ranks.now c.loop-router.router-index c.loop-router-item.result c.requires.ranks c.loop-router-test.true c.loop-router-item.is)
    c.index-names-rank.is)
    (take_more c.args.ranks.now c.loop-router.router-index c.loop-router-item.result c.loop-router-test.true
    ∙ ap (λ (p : ℕ × ℕ). take c.loop-router.router-index c.args.ranks.now ++ p ∷ []) (sym c.loop-router-item.is))
    c.in_ok-push.ensures.items

are : (c : After-sort) → AreSpokes c.args.graph.now c.sort.new.edges.items
are c =
    let all : take c.loop-router.router-index c.args.ranks.now ≡ c.args.ranks.now = take_all c.loop-router.router-index c.args.ranks.now c.loop-router-test.false in
    spokes_sorted c.args.graph.now c.loop-router.edges.items c.sort.new.edges.items
    (spokes_all c.args.graph.now c.args.names.now c.args.ranks.now c.loop-router.edges.items c.requires.ranks
    (subst (λ (l : List (ℕ × ℕ)). AreSpokesTo c.args.names.now l c.loop-router.edges.items) all c.loop-router.invariant))
    c.sort.ensures.kept c.sort.ensures.no_other

pub from_edges-requires : goal.from_edges-requires
from_edges-requires c = spokes_graph c.args.graph.now c.sort.new.edges.items c.requires.graph c.requires.two_way (are (goal.at.from_edges-requires c).After-sort) c.sort.ensures.rising

pub returns : goal.returns
returns c = rw c.from_edges.ensures (are (goal.at.returns c).After-sort)
