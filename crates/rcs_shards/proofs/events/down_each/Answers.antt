use Rattle.std.proofs.Common.{◌≡◌, ◌<◌, ◌≤◌, length, map, get_or, sym, ap, subst, ◌∙◌, rules}
use Rattle.std.proofs.Common.{true}
use Rattle.rcp_model.specs.ServerRibs.{Down}
use Rattle.rcs_shard.specs.Shards.{acted, is_connected}
use Rattle.rcs_shard.specs.Shards.{ShardOf}
use Rattle.rcs_shards.proofs.EachLemmas.{changed-read, changed-turn, changed-all, length-changed, written_back}
use Rattle.rcs_shards.proofs.events.down_each.Goals as goal

pub down-requires-clause-member : goal.down-requires-clause-member
down-requires-clause-member c =
    let f : ShardOf → ShardOf = (λ s. acted (Down c.args.slot) s) in
    let xs = c.deref_mut-shard-items.result.now in
    let same : xs ≡ c.args.shards.now.items = c.deref_mut-shard-items.ensures.value in
    let low : c.loop-shard.shard-index < length c.args.shards.now.items = subst (λ n. c.loop-shard.shard-index < n) (ap length same) c.loop-shard-test.true in
    subst (λ (s : ShardOf). c.args.slot < length s.members) (ap (λ l. get_or l c.loop-shard.shard-index c.shard-item.result) (sym same) ∙ sym (changed-read f c.loop-shard.shard-index xs c.loop-shard.shard-items c.shard-item.result c.loop-shard.invariant))
    (c.requires.member c.loop-shard.shard-index c.shard-item.result low)

pub down-requires-clause-up : goal.down-requires-clause-up
down-requires-clause-up c =
    let f : ShardOf → ShardOf = (λ s. acted (Down c.args.slot) s) in
    let xs = c.deref_mut-shard-items.result.now in
    let same : xs ≡ c.args.shards.now.items = c.deref_mut-shard-items.ensures.value in
    let low : c.loop-shard.shard-index < length c.args.shards.now.items = subst (λ n. c.loop-shard.shard-index < n) (ap length same) c.loop-shard-test.true in
    subst (λ (s : ShardOf). is_connected s c.args.slot ≡ true) (ap (λ l. get_or l c.loop-shard.shard-index c.shard-item.result) (sym same) ∙ sym (changed-read f c.loop-shard.shard-index xs c.loop-shard.shard-items c.shard-item.result c.loop-shard.invariant))
    (c.requires.up c.loop-shard.shard-index c.shard-item.result low)

pub loop-shard-preserved : goal.loop-shard-preserved
loop-shard-preserved c =
    let f : ShardOf → ShardOf = (λ s. acted (Down c.args.slot) s) in
    changed-turn f c.loop-shard.shard-index c.deref_mut-shard-items.result.now c.loop-shard.shard-items c.shard-item.result c.down.new.self c.loop-shard.invariant c.loop-shard-test.true c.shard-item.is (c.down.ensures ∙ ap f (sym c.shard-item.is))

pub returns : goal.returns
returns c =
    let f : ShardOf → ShardOf = (λ s. acted (Down c.args.slot) s) in
    let xs = c.deref_mut-shard-items.result.now in
    let same : xs ≡ c.args.shards.now.items = c.deref_mut-shard-items.ensures.value in
    let all : length xs ≤ c.loop-shard.shard-index = search rules in
    written_back c.args.shards.now.len c.args.shards.now.items c.loop-shard.shard-items (search rules) (ap length c.loop-shard.invariant ∙ length-changed f c.loop-shard.shard-index xs ∙ ap length same)
    ∙ c.loop-shard.invariant
    ∙ changed-all f c.loop-shard.shard-index xs all
    ∙ ap (map f) same
