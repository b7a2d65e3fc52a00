use Rattle.std.proofs.Common.{◌≡◌, ◌<◌, ◌≤◌, length, map, get_or, sym, ap, subst, ◌∙◌, arith, rules}
use Rattle.std.specs.Prelude.{All}
use Rattle.cost_rows.specs.Views.{ViewOf}
use Rattle.rcp_model.specs.ServerRibs.{Links}
use Rattle.rcs_shard.specs.Shards.{ShardOf, acted}
use Rattle.rcs_shard.specs.Settling.{AreClasses}
use Rattle.rcs_shard.specs.Following.{AreMoved}
use Rattle.rcs_shards.proofs.EachLemmas.{changed-read, changed-turn, changed-all, length-changed, written_back, length-last, all-last, all-front}
use Rattle.rcs_shards.proofs.events.view_each.Goals as goal

pub follow-requires-clause-members : goal.follow-requires-clause-members
follow-requires-clause-members c =
    let f : ShardOf → ShardOf = λ s. acted (Links c.args.view.now.value.edges) s in
    let xs = c.deref_mut-shard-items.result.now in
    let same : xs ≡ c.args.shards.now.items = c.deref_mut-shard-items.ensures.value in
    let low : c.loop-shard.shard-index < length c.args.shards.now.items = subst (λ n. c.loop-shard.shard-index < n) (ap length same) c.loop-shard-test.true in
    let old = subst (All (λ copy. copy.value ≡ c.args.view.now.value)) c.in-Some.ensures.items c.loop-shard.invariant.2 in
    ap (λ (v : ViewOf). v.members) (all-last (λ copy. copy.value ≡ c.args.view.now.value) c.pop.new.self.items c.in-Some.copy old)
    ∙ c.requires.members c.loop-shard.shard-index c.shard-item.result low
    ∙ ap (λ (s : ShardOf). s.members) (ap (λ l. get_or l c.loop-shard.shard-index c.shard-item.result) (sym same) ∙ sym (changed-read f c.loop-shard.shard-index xs c.loop-shard.shard-items c.shard-item.result c.loop-shard.invariant.0))

pub follow-requires-clause-moved : goal.follow-requires-clause-moved
follow-requires-clause-moved c =
    let f : ShardOf → ShardOf = λ s. acted (Links c.args.view.now.value.edges) s in
    let xs = c.deref_mut-shard-items.result.now in
    let same : xs ≡ c.args.shards.now.items = c.deref_mut-shard-items.ensures.value in
    let low : c.loop-shard.shard-index < length c.args.shards.now.items = subst (λ n. c.loop-shard.shard-index < n) (ap length same) c.loop-shard-test.true in
    let old = subst (All (λ copy. copy.value ≡ c.args.view.now.value)) c.in-Some.ensures.items c.loop-shard.invariant.2 in
    let read = ap (λ l. get_or l c.loop-shard.shard-index c.shard-item.result) (sym same) ∙ sym (changed-read f c.loop-shard.shard-index xs c.loop-shard.shard-items c.shard-item.result c.loop-shard.invariant.0) in
    let here = get_or c.loop-shard.shard-items c.loop-shard.shard-index c.shard-item.result in
    subst (λ (v : ViewOf). AreMoved here.ribs.edges v.edges here.members c.args.moved.now) (sym (all-last (λ copy. copy.value ≡ c.args.view.now.value) c.pop.new.self.items c.in-Some.copy old))
    (subst (λ (s : ShardOf). AreMoved s.ribs.edges c.args.view.now.value.edges s.members c.args.moved.now) read (c.requires.moved c.loop-shard.shard-index c.shard-item.result low))

pub follow-requires-clause-classes : goal.follow-requires-clause-classes
follow-requires-clause-classes c =
    let old = subst (All (λ copy. copy.value ≡ c.args.view.now.value)) c.in-Some.ensures.items c.loop-shard.invariant.2 in
    subst (λ (v : ViewOf). AreClasses v c.args.classes.now) (sym (all-last (λ copy. copy.value ≡ c.args.view.now.value) c.pop.new.self.items c.in-Some.copy old)) c.requires.classes

pub loop-shard-preserved : goal.loop-shard-preserved
loop-shard-preserved c =
    let f : ShardOf → ShardOf = λ s. acted (Links c.args.view.now.value.edges) s in
    let old = subst (All (λ copy. copy.value ≡ c.args.view.now.value)) c.in-Some.ensures.items c.loop-shard.invariant.2 in
    let copy_is = all-last (λ copy. copy.value ≡ c.args.view.now.value) c.pop.new.self.items c.in-Some.copy old in
    let long = ap length c.in-Some.ensures.items ∙ length-last c.pop.new.self.items c.in-Some.copy in (
      changed-turn f c.loop-shard.shard-index c.deref_mut-shard-items.result.now c.loop-shard.shard-items c.shard-item.result c.follow.new.self c.loop-shard.invariant.0 c.loop-shard-test.true c.shard-item.is
          (c.follow.ensures ∙ ap (λ (v : ViewOf). acted (Links v.edges) (get_or c.loop-shard.shard-items c.loop-shard.shard-index c.shard-item.result)) copy_is ∙ ap f (sym c.shard-item.is)),
      omega (arith, long, c.loop-shard.invariant.1),
      all-front (λ copy. copy.value ≡ c.args.view.now.value) c.pop.new.self.items c.in-Some.copy old,
    )

pub returns-clause-after : goal.returns-clause-after
returns-clause-after c =
    let f : ShardOf → ShardOf = λ s. acted (Links c.args.view.now.value.edges) s in
    let xs = c.deref_mut-shard-items.result.now in
    let same : xs ≡ c.args.shards.now.items = c.deref_mut-shard-items.ensures.value in
    let all : length xs ≤ c.loop-shard.shard-index = search rules in
    written_back c.args.shards.now.len c.args.shards.now.items c.loop-shard.shard-items (search rules) (ap length c.loop-shard.invariant.0 ∙ length-changed f c.loop-shard.shard-index xs ∙ ap length same)
    ∙ c.loop-shard.invariant.0
    ∙ changed-all f c.loop-shard.shard-index xs all
    ∙ ap (map f) same
