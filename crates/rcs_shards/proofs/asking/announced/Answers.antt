use Rattle.std.proofs.Common.{true, rules}
use Rattle.std.specs.FinSet as set_of
use Rattle.rcp_model.specs.Routes.{RouteFields}
use Rattle.rcp_model.specs.ServerRibs.{Ribs, prefixes_of}
use Rattle.rcs_shards.proofs.CountLemmas.{count-turn, count-all}
use Rattle.rcs_shards.proofs.asking.announced.Goals as goal

pub loop-shard-preserved : goal.loop-shard-preserved
loop-shard-preserved c =
    count-turn (λ (ribs : Ribs RouteFields). set_of.len (prefixes_of (λ e. true) ribs.announced)) c.args.shards.now c.loop-shard.shard-index c.shard-item.result c.loop-shard-test.true c.shard-item.is c.loop-shard.count c.announced.result c.saturating_add-count.result
    c.loop-shard.invariant c.announced.ensures c.saturating_add-count.ensures

pub returns : goal.returns
returns c = count-all (λ (ribs : Ribs RouteFields). set_of.len (prefixes_of (λ e. true) ribs.announced)) c.args.shards.now c.loop-shard.shard-index c.loop-shard.count c.loop-shard.invariant (search rules)
