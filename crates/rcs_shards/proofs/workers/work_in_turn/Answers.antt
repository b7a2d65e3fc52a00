use Rattle.std.proofs.Common.{◌≡◌, ◌≤◌, length, map, get_or, sym, ap, ◌∙◌, rules}
use Rattle.rcs_shards.specs.Dirty.{sliced_whole}
use Rattle.rcs_shards.proofs.EachLemmas.{changed-turn, changed-all, length-changed, written_back}
use Rattle.rcs_shards.proofs.workers.work_in_turn.Goals as goal

pub loop-shard-preserved : goal.loop-shard-preserved
loop-shard-preserved c =
    changed-turn sliced_whole c.loop-shard.shard-index c.deref_mut-shard-items.result.now c.loop-shard.shard-items c.shard-item.result c.work_whole.new.shard c.loop-shard.invariant c.loop-shard-test.true c.shard-item.is
    (c.work_whole.ensures ∙ ap sliced_whole (sym c.shard-item.is))

pub returns : goal.returns
returns c =
    let xs = c.deref_mut-shard-items.result.now in
    let same : xs ≡ c.args.shards.now.items = c.deref_mut-shard-items.ensures.value in
    let all : length xs ≤ c.loop-shard.shard-index = search rules in
    written_back c.args.shards.now.len c.args.shards.now.items c.loop-shard.shard-items (search rules) (ap length c.loop-shard.invariant ∙ length-changed sliced_whole c.loop-shard.shard-index xs ∙ ap length same)
    ∙ c.loop-shard.invariant
    ∙ changed-all sliced_whole c.loop-shard.shard-index xs all
    ∙ ap (map sliced_whole) same
