use Rattle.std.proofs.Common.{◌<◌, length, get_or, None, refl, rules, ◌∙◌}
use Rattle.std.proofs.lemmas.List.{length-set}
use Rattle.rcs_shards.proofs.FrontLemmas.{fronts-none, fronts-more, fronts-all, front-at}
use Rattle.rcs_shards.proofs.cursors.find_fronts.Goals as goal

pub loop-place-init : goal.loop-place-init
loop-place-init c = (fronts-none c.args.shards.now c.args.busy.now c.args.slot c.args.cursors.now.prefixes.items c.args.cursors.now.routes.items c.requires.prefixes c.requires.routes, c.requires.passed, refl)

pub loop-place-preserved : goal.loop-place-preserved
loop-place-preserved c =
    let place = get_or c.args.busy.now c.loop-place.place-index 0 in
    let low : place < length c.args.shards.now = c.requires.within c.loop-place.place-index 0 c.loop-place-test.true in (
      fronts-more c.args.shards.now c.args.busy.now c.args.slot c.loop-place.place-index place c.loop-place.cursors.prefixes.items c.loop-place.cursors.routes.items c.next_front-prefix.result.0 c.next_front-prefix.result.1
          c.loop-place.invariant.0 refl low
          (front-at c.args.shards.now c.args.slot place None c.index-shards-place.result c.next_front-prefix.result.0 c.next_front-prefix.result.1 low c.index-shards-place.is
          c.next_front-prefix.ensures.next c.next_front-prefix.ensures.route c.next_front-prefix.ensures.usable),
      length-set c.loop-place.cursors.passed.items place 0 ∙ c.loop-place.invariant.1,
      c.loop-place.invariant.2,
    )

pub returns-clause-fronts : goal.returns-clause-fronts
returns-clause-fronts c = fronts-all c.args.shards.now c.args.busy.now c.args.slot c.loop-place.place-index c.loop-place.cursors.prefixes.items c.loop-place.cursors.routes.items c.loop-place.invariant.0 (search rules)
