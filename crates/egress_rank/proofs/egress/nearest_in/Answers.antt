use Rattle.std.proofs.Common.{◌≡◌, ◌<◌, ◌==◌, ◌++◌, ◌∷◌, [], Some, None, length, take, get_or, sym, ◌∙◌, ap, subst, arith}
use Rattle.std.proofs.lemmas.Bool.{eqb-false}
use Rattle.std.proofs.lemmas.List.{take_more}
use Rattle.rcp_base.specs.declared.names.Member.{Member}
use Rattle.rcp_model.specs.RouteServer.{slot_cost}
use Rattle.cost_rows.specs.Views.{identifier_at}
use Rattle.cost_rows.proofs.KeyLemmas.{identifier_is}
use Rattle.cost_rows.proofs.ReachLemmas.{seated_cost}
use Rattle.egress_rank.proofs.EgressLemmas.{Compared, compared_skip, compared_one}
use Rattle.egress_rank.proofs.egress.nearest_in.Goals as goal

pub loop-egress-preserved-in_default : goal.loop-egress-preserved-in_default
loop-egress-preserved-in_default c =
    subst (λ passed. Compared c.args.view.now.members (slot_cost c.args.view.now.edges c.args.view.now.members c.args.slot) c.args.slot passed c.loop-egress.nearest)
    (sym (take_more c.args.tied.now c.loop-egress.egress-index c.egress-item.result c.loop-egress-test.true ∙ ap (λ e. take c.loop-egress.egress-index c.args.tied.now ++ e ∷ []) (sym c.egress-item.is)))
    (compared_skip c.args.view.now.members (slot_cost c.args.view.now.edges c.args.view.now.members c.args.slot) c.args.slot (take c.loop-egress.egress-index c.args.tied.now) c.loop-egress.nearest c.egress-item.result
    (eqb-false _ _ (sym c.eq.ensures ∙ c.if-eq.false)) (subst (λ e. slot_cost c.args.view.now.edges c.args.view.now.members c.args.slot e ≡ None) c.egress.view_is (sym c.cost.ensures ∙ c.in_default.is)) c.loop-egress.invariant)

pub bounds-members-egress-inside : goal.bounds-members-egress-inside
bounds-members-egress-inside c =
    let seated = seated_cost c.args.view.now.edges c.args.view.now.members c.args.slot c.egress-item.result c.in-Some.cost (subst (λ e. slot_cost c.args.view.now.edges c.args.view.now.members c.args.slot e ≡ Some c.in-Some.cost) c.egress.view_is (sym c.cost.ensures ∙ c.in-Some.is)) in
    let here : c.egress.inside.0 ≡ c.egress-item.result = c.egress.view_is in
    omega (arith, ap length c.members-members.ensures.members)

pub bounds-members-egress-inside-in-Some : goal.bounds-members-egress-inside-in-Some
bounds-members-egress-inside-in-Some c =
    let seated = seated_cost c.args.view.now.edges c.args.view.now.members c.args.slot c.egress-item.result c.in-Some.cost (subst (λ e. slot_cost c.args.view.now.edges c.args.view.now.members c.args.slot e ≡ Some c.in-Some.cost) c.egress.view_is (sym c.cost.ensures ∙ c.in-Some.is)) in
    let here : c.egress.inside.0 ≡ c.egress-item.result = c.egress.view_is in
    omega (arith, ap length c.members-members.ensures.members)

pub loop-egress-preserved : goal.loop-egress-preserved
loop-egress-preserved c =
    let at = sym c.cost.ensures ∙ c.in-Some.is in
    let seated = seated_cost c.args.view.now.edges c.args.view.now.members c.args.slot c.egress.inside.0 c.in-Some.cost at in
    let within : c.egress.inside.0 < length c.members-members.result.now = omega (arith, ap length c.members-members.ensures.members) in
    let member = get_or c.members-members.result.now c.egress.inside.0 c.index-members-egress.result in
    let named : identifier_at c.args.view.now.members c.egress.inside.0 ≡ member.bgp_id =
    ap (λ members. identifier_at members c.egress.inside.0) (sym c.members-members.ensures.members)
    ∙ identifier_is c.members-members.result.now c.egress.inside.0 c.index-members-egress.result within c.index-members-egress.is ∙ ap (λ (m : Member). m.bgp_id) c.index-members-egress.is in
    let differs = eqb-false c.egress.inside.0 c.args.slot (ap (λ e. e == c.args.slot) c.egress.view_is ∙ sym c.eq.ensures ∙ c.if-eq.false) in
    subst (λ passed. Compared c.args.view.now.members (slot_cost c.args.view.now.edges c.args.view.now.members c.args.slot) c.args.slot passed (Some c.nearer_of.result))
    (sym (take_more c.args.tied.now c.loop-egress.egress-index c.egress-item.result c.loop-egress-test.true
    ∙ ap (λ e. take c.loop-egress.egress-index c.args.tied.now ++ e ∷ []) (sym c.egress-item.is ∙ sym c.egress.view_is)))
    (compared_one c.args.view.now.members (slot_cost c.args.view.now.edges c.args.view.now.members c.args.slot) c.args.slot (take c.loop-egress.egress-index c.args.tied.now) c.loop-egress.nearest
    (record { slot = c.egress.inside.0; cost = c.in-Some.cost; id = member.bgp_id }) c.nearer_of.result c.members-members.ensures.distinct
    (λ e n is. seated_cost c.args.view.now.edges c.args.view.now.members c.args.slot e n is) differs at named c.nearer_of.ensures c.loop-egress.invariant)
