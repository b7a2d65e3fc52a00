use Rattle.std.proofs.Common.{None, get_or, refl, rules}
use Rattle.std.proofs.lemmas.List.{get_or_read}
use Rattle.rcs_shards.proofs.FrontLemmas.{so_far-none, so_far-more, so_far-all}
use Rattle.rcs_shards.proofs.cursors.least.Goals as goal

pub loop-place-init : goal.loop-place-init
loop-place-init c = so_far-none c.args.busy.now c.args.prefixes.now

pub loop-place-preserved : goal.loop-place-preserved
loop-place-preserved c =
    let place = get_or c.args.busy.now c.loop-place.place-index 0 in
    so_far-more c.args.busy.now c.args.prefixes.now c.loop-place.place-index place c.loop-place.found c.index-prefixes-place.result c.lesser-found.result c.loop-place.invariant c.loop-place-test.true refl
    (get_or_read c.args.prefixes.now place c.index-prefixes-place.result (c.requires c.loop-place.place-index 0 c.loop-place-test.true) c.index-prefixes-place.is None)
    c.lesser-found.ensures

pub returns : goal.returns
returns c = so_far-all c.args.busy.now c.args.prefixes.now c.loop-place.place-index c.loop-place.found c.loop-place.invariant (search rules)
