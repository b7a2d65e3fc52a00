use Rattle.std.proofs.Common.{sym, ◌∙◌, arith}
use Rattle.std.proofs.lemmas.Bool.{false≢true}
use Rattle.rcp_model.specs.RouteServer.{slot_cost}
use Rattle.egress_rank.proofs.EgressLemmas.{first_found, none_found, passed_one}
use Rattle.egress_rank.proofs.egress.first_in.Goals as goal

pub loop-egress-init : goal.loop-egress-init
loop-egress-init c = record {
  ranking = c.ranked-egress-items.ensures;
  own = λ marked. false≢true (sym c.if-is_marked.false ∙ c.is_marked.ensures.1 marked);
  unmarked = λ k d less marked. omega arith;
}

pub returns-then-is_marked-2 : goal.returns-then-is_marked-2
returns-then-is_marked-2 c =
    first_found c.args.view.now.members (slot_cost c.args.view.now.edges c.args.view.now.members c.args.slot) c.args.slot c.args.tied.now c.ranked-egress-items.result.now c.loop-egress.egress-index c.egress-item.result
    c.loop-egress.invariant c.loop-egress-test.true c.egress-item.is (c.is_marked-in-loop-egress.ensures.0 c.if-is_marked-2.true)

pub loop-egress-preserved : goal.loop-egress-preserved
loop-egress-preserved c =
    passed_one c.args.view.now.members (slot_cost c.args.view.now.edges c.args.view.now.members c.args.slot) c.args.slot c.args.tied.now c.ranked-egress-items.result.now c.loop-egress.egress-index c.egress-item.result
    c.loop-egress.invariant c.loop-egress-test.true c.egress-item.is (λ marked. false≢true (sym c.if-is_marked-2.false ∙ c.is_marked-in-loop-egress.ensures.1 marked))

pub returns : goal.returns
returns c =
    none_found c.args.view.now.members (slot_cost c.args.view.now.edges c.args.view.now.members c.args.slot) c.args.slot c.args.tied.now c.ranked-egress-items.result.now c.loop-egress.egress-index c.loop-egress.invariant c.loop-egress-test.false
