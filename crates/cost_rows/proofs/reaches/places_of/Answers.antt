use Rattle.std.proofs.Common.{Contains, subst, sym, slice_get, Some, ◌≡◌}
use Rattle.std.proofs.lemmas.List.Elements.{all_zip_more}
use Rattle.cost_rows.proofs.reaches.places_of.Goals as goal

pub place_of-requires-clause-named : goal.place_of-requires-clause-named
place_of-requires-clause-named c =
    subst (Contains c.args.names.now) (sym c.router-item.is) (c.requires.named c.loop-router.router-index c.router-item.result c.loop-router-test.true)

pub loop-router-preserved : goal.loop-router-preserved
loop-router-preserved c =
    rw c.in_ok-push.ensures.items
    (all_zip_more (λ router place. slice_get c.args.names.now place ≡ Some router) c.args.routers.now c.loop-router.places.items c.loop-router.router-index c.router-item.result c.place_of.result
    c.loop-router-test.true c.router-item.is c.loop-router.invariant c.place_of.ensures)
