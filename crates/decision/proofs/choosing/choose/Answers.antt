use Rattle.std.proofs.Common.{option_map, refl, sym, ◌∙◌, ap, arith, eqb-true}
use Rattle.decision.specs.declared.choosing.Rival.{Rival}
use Rattle.rcp_model.specs.RouteServer.{slot_cost}
use Rattle.decision.proofs.ChoosingLemmas.{passed_beaten, passed_tied, passed_own, passed_all, passed_nothing}
use Rattle.decision.proofs.choosing.choose.Goals as goal

pub loop-candidate-preserved-then-is_beaten : goal.loop-candidate-preserved-then-is_beaten
loop-candidate-preserved-then-is_beaten g c =
    passed_beaten c.args.slot (slot_cost (g.V.Costs.edges c.args.view.now) (g.V.Costs.members c.args.view.now) c.args.slot) c.args.list.now c.loop-candidate.candidate-index
    c.candidate-item.result c.loop-candidate-test.true c.candidate-item.is c.loop-candidate.nearest c.loop-candidate.invariant (sym c.is_beaten.ensures ∙ c.if-is_beaten.true)

pub returns-then-is_own-clause-chosen : goal.returns-then-is_own-clause-chosen
returns-then-is_own-clause-chosen g c =
    sym (passed_own c.args.slot (slot_cost (g.V.Costs.edges c.args.view.now) (g.V.Costs.members c.args.view.now) c.args.slot) c.args.list.now c.loop-candidate.candidate-index
    c.candidate-item.result c.loop-candidate-test.true c.candidate-item.is (sym c.is_beaten.ensures ∙ c.if-is_beaten.false) (eqb-true _ _ (sym c.is_own.ensures ∙ c.if-is_own.true)))

pub loop-candidate-preserved : goal.loop-candidate-preserved
loop-candidate-preserved g c =
    passed_tied c.args.slot (slot_cost (g.V.Costs.edges c.args.view.now) (g.V.Costs.members c.args.view.now) c.args.slot) c.args.list.now c.loop-candidate.candidate-index
    c.candidate-item.result c.loop-candidate-test.true c.candidate-item.is c.loop-candidate.nearest c.nearer_of.result c.loop-candidate.invariant (sym c.is_beaten.ensures ∙ c.if-is_beaten.false)
    (sym c.is_own.ensures ∙ c.if-is_own.false) (rw (← c.candidate.view_is, ← c.cost.ensures) c.nearer_of.ensures.first) (rw (← c.candidate.view_is, ← c.cost.ensures) c.nearer_of.ensures.second)

pub returns-in_err-nearest : goal.returns-in_err-nearest
returns-in_err-nearest g c =
    let nothing = passed_nothing c.args.slot (slot_cost (g.V.Costs.edges c.args.view.now) (g.V.Costs.members c.args.view.now) c.args.slot) c.args.list.now c.loop-candidate.candidate-index c.loop-candidate.nearest
    (omega arith) c.loop-candidate.invariant c.in_err-nearest.was in
    record {
      chosen = c.from_residual.ensures ∙ sym nothing.0;
      none = (λ _. nothing.1, λ _. rw c.from_residual.ensures refl);
    }

pub returns-clause-chosen : goal.returns-clause-chosen
returns-clause-chosen g c =
    sym (passed_all c.args.slot (slot_cost (g.V.Costs.edges c.args.view.now) (g.V.Costs.members c.args.view.now) c.args.slot) c.args.list.now c.loop-candidate.candidate-index c.loop-candidate.nearest
    (omega arith) c.loop-candidate.invariant ∙ ap (option_map (λ (r : Rival). r.slot)) c.in_ok-nearest.was)
