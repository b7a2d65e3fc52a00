use Rattle.std.proofs.Common.{◌≡◌, true, Some, sym, ap, ◌∙◌, arith, eqb-true, eq-eqb}
use Rattle.std.proofs.lemmas.Bool.{false≢true}
use Rattle.std.proofs.lemmas.Option.{same_Some}
use Rattle.rcp_model.specs.RouteServer.{router_at}
use Rattle.cost_rows.proofs.ReachLemmas.{router_within}
use Rattle.hop_walk.proofs.StepLemmas.{router-get, none_more}
use Rattle.hop_walk.proofs.choosing.connected_slot.Goals as goal
use Rattle.hop_walk.proofs.choosing.connected_slot.Goals.{else-connected-via-then-connected+else-eq, else-connected-via-else-connected}

pub returns-then-eq-clause-found : goal.returns-then-eq-clause-found
returns-then-eq-clause-found g c = (
  omega (arith, c.members-place-end.ensures.count, c.loop-place-test.true),
  router-get (g.X.Costs.members c.args.platform.now) c.loop-place.place ∙ c.router.ensures ∙ ap Some (eqb-true c.router.result c.args.router (sym c.eq.ensures ∙ c.if-eq.true)),
  sym c.connected.ensures ∙ c.if-connected.true,
)

pub loop-place-preserved : goal.loop-place-preserved
loop-place-preserved g c = λ slot less at on.
    none_more (λ k. (router_at (g.X.Costs.members c.args.platform.now) k ≡ Some c.args.router) × (g.X.Assigned.connected c.args.platform.now k ≡ true)) c.loop-place.place
    (λ k earlier both. c.loop-place.invariant k earlier both.0 both.1)
    (λ both. elim c.else-connected.branch [
      | else-connected-via-then-connected+else-eq w ↦
          let same = same_Some _ _ (sym w.router.ensures ∙ sym (router-get (g.X.Costs.members c.args.platform.now) c.loop-place.place) ∙ both.0) in
          false≢true (sym w.if-eq.false ∙ w.eq.ensures ∙ eq-eqb w.router.result c.args.router same)
      | else-connected-via-else-connected w ↦ false≢true (sym w.if-connected.false ∙ c.connected.ensures ∙ both.1)
    ])
    slot less (at, on)

pub returns-clause-none : goal.returns-clause-none
returns-clause-none g c = λ _ slot at on.
    let within = router_within (g.X.Costs.members c.args.platform.now) slot c.args.router at in
    c.loop-place.invariant slot (omega (arith, within, c.members-place-end.ensures.count, c.loop-place-test.false)) at on
