use Rattle.std.proofs.Common.{◌≡◌, ◌<◌, ◌≤◌, length, map, get_or, sym, ap, subst, ◌∙◌, rules}
use Rattle.std.proofs.lemmas.Option.{slice_get-get_or}
use Rattle.std.proofs.Common.{ℕ, true}
use Rattle.rcp_base.specs.IpPrefix.{IpPrefix}
use Rattle.rcs_shard.specs.Shards.{is_dirty}
use Rattle.rcs_shards.specs.Dirty.{cleaned}
use Rattle.rcs_shard.specs.Shards.{ShardOf}
use Rattle.rcs_shards.proofs.EachLemmas.{changed-read, changed-turn, changed-all, length-changed, written_back}
use Rattle.rcs_shards.proofs.cleaning.clean.Goals as goal

pub clean_shard-requires-clause-members : goal.clean_shard-requires-clause-members
clean_shard-requires-clause-members c =
    let f : ShardOf → ShardOf = (λ s. cleaned s) in
    let xs = c.deref_mut-shard-items.result.now in
    let same : xs ≡ c.args.shards.now.items = c.deref_mut-shard-items.ensures.value in
    let low : c.loop-shard.shard-index < length c.args.shards.now.items = subst (λ n. c.loop-shard.shard-index < n) (ap length same) c.loop-shard-test.true in
    subst (λ (s : ShardOf). s.members ≡ c.args.roster.now.members) (ap (λ l. get_or l c.loop-shard.shard-index c.shard-item.result) (sym same) ∙ sym (changed-read f c.loop-shard.shard-index xs c.loop-shard.shard-items c.shard-item.result c.loop-shard.invariant))
    (c.requires.each c.loop-shard.shard-index (get_or c.args.shards.now.items c.loop-shard.shard-index c.shard-item.result) (slice_get-get_or c.args.shards.now.items c.loop-shard.shard-index c.shard-item.result low)).members

pub clean_shard-requires-clause-seated : goal.clean_shard-requires-clause-seated
clean_shard-requires-clause-seated c =
    let f : ShardOf → ShardOf = (λ s. cleaned s) in
    let xs = c.deref_mut-shard-items.result.now in
    let same : xs ≡ c.args.shards.now.items = c.deref_mut-shard-items.ensures.value in
    let low : c.loop-shard.shard-index < length c.args.shards.now.items = subst (λ n. c.loop-shard.shard-index < n) (ap length same) c.loop-shard-test.true in
    subst (λ (s : ShardOf). (slot : ℕ) (p : IpPrefix) → is_dirty s slot p ≡ true → slot < length c.args.roster.now.members) (ap (λ l. get_or l c.loop-shard.shard-index c.shard-item.result) (sym same) ∙ sym (changed-read f c.loop-shard.shard-index xs c.loop-shard.shard-items c.shard-item.result c.loop-shard.invariant))
    (c.requires.each c.loop-shard.shard-index (get_or c.args.shards.now.items c.loop-shard.shard-index c.shard-item.result) (slice_get-get_or c.args.shards.now.items c.loop-shard.shard-index c.shard-item.result low)).seated

pub loop-shard-preserved : goal.loop-shard-preserved
loop-shard-preserved c =
    let f : ShardOf → ShardOf = (λ s. cleaned s) in
    changed-turn f c.loop-shard.shard-index c.deref_mut-shard-items.result.now c.loop-shard.shard-items c.shard-item.result c.clean_shard.new.shard c.loop-shard.invariant c.loop-shard-test.true c.shard-item.is (c.clean_shard.ensures ∙ ap f (sym c.shard-item.is))

pub returns : goal.returns
returns c =
    let f : ShardOf → ShardOf = (λ s. cleaned s) in
    let xs = c.deref_mut-shard-items.result.now in
    let same : xs ≡ c.args.shards.now.items = c.deref_mut-shard-items.ensures.value in
    let all : length xs ≤ c.loop-shard.shard-index = search rules in
    written_back c.args.shards.now.len c.args.shards.now.items c.loop-shard.shard-items (search rules) (ap length c.loop-shard.invariant ∙ length-changed f c.loop-shard.shard-index xs ∙ ap length same)
    ∙ c.loop-shard.invariant
    ∙ changed-all f c.loop-shard.shard-index xs all
    ∙ ap (map f) same
