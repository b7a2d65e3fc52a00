use Rattle.std.proofs.Common.{map, ap, refl, ◌∙◌}
use Rattle.std.proofs.lemmas.Option.{slice_get_read}
use Rattle.replica_law.specs.Ranks.{free}
use Rattle.replica_law.proofs.RankLemmas.{ranked_none, ranked_more, ranked_all}
use Rattle.replica_law.proofs.partitions.ranked.Goals as goal

pub loop-rank-init : goal.loop-rank-init
loop-rank-init c = ranked_none c.args.graph.now c.args.names.now c.args.root c.in_ok-edges.edges.items (c.in_ok-edges.ensures ∙ ap (map free) c.edges.ensures.edges)

pub loop-rank-preserved : goal.loop-rank-preserved
loop-rank-preserved c =
    ranked_more c.args.graph.now c.args.names.now c.args.root c.loop-rank.rank c.index-names-rank.result c.loop-rank.edges.items c.push.new.self.items c.loop-rank.invariant
    (slice_get_read c.args.names.now _ c.loop-rank.rank c.index-names-rank.result refl c.loop-rank-test.true c.index-names-rank.is) c.in_ok-push.ensures.items

pub returns : goal.returns
returns c = ranked_all c.args.graph.now c.args.names.now c.args.root c.loop-rank.rank c.loop-rank.edges.items c.loop-rank.invariant c.loop-rank-test.false
