use Rattle.std.proofs.Common.{◌<◌, IsSome, refl, sym, ap, subst, ◌∙◌}
use Rattle.std.specs.FinMap as map_of
use Rattle.rcp_model.specs.Ribs.{RouteNumbers}
use Rattle.route_store.proofs.DropLemmas.{other_slot, dropped_one, all_dropped, one_less}
use Rattle.route_store.proofs.store.RouteStore.drop_all.Goals as goal

pub loop-taken-smaller : goal.loop-taken-smaller
loop-taken-smaller c =
    subst (λ (m : RouteNumbers). map_of.len m < map_of.len c.loop-taken.self) (sym c.in-Some.ensures.taken)
    (one_less c.loop-taken.self (c.in-Some._taken.0, c.args.slot) (subst IsSome (sym c.in-Some.ensures.value) refl))

pub loop-taken-preserved : goal.loop-taken-preserved
loop-taken-preserved c =
    ap (λ (m : RouteNumbers). map_of.retain_keys m (other_slot c.args.slot)) c.in-Some.ensures.taken
    ∙ dropped_one c.args.slot c.loop-taken.self c.in-Some._taken.0 ∙ c.loop-taken.invariant

pub returns : goal.returns
returns c = c.in_default.ensures.none ∙ all_dropped c.args.slot c.loop-taken.self c.in_default.ensures.first ∙ c.loop-taken.invariant
