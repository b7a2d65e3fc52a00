use Rattle.std.proofs.Common.{◌≡◌, length, map, sym, ap, ◌∙◌, rules}
use Rattle.rcs_shards.specs.Dirty.{sliced_whole}
use Rattle.rcs_shards.proofs.EachLemmas.{changed-each, written_back}
use Rattle.rcs_shards.proofs.workers.work_in_threads.Goals as goal

pub returns : goal.returns
returns g c =
    let xs = c.deref_mut.result.now in
    let ys = c.par_for_each_mut.new.s in
    let same : c.deref_mut.result.now ≡ c.args.shards.now.items = c.deref_mut.ensures.value in
    let long : length c.par_for_each_mut.new.s ≡ length c.deref_mut.result.now = c.par_for_each_mut.auto.s in
    written_back c.args.shards.now.len c.args.shards.now.items ys (search rules) (long ∙ ap length same)
    ∙ changed-each sliced_whole xs ys long
    (λ i d low. let at = (c.par_for_each_mut.ensures i d low).1 in sym at.left ∙ at.call ∙ ap sliced_whole at.argument_is)
    ∙ ap (map sliced_whole) same
