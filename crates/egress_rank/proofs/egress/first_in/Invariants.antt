use Rattle.rcp_model.specs.RouteServer.{slot_cost}
use Rattle.egress_rank.proofs.EgressLemmas.{Passed}
use Rattle.egress_rank.proofs.egress.first_in.Given as goal

abbrev pub invariant-loop-egress : goal.invariant-loop-egress
invariant-loop-egress l = Passed l.view.members (slot_cost l.view.edges l.view.members l.fn.slot) l.fn.slot l.tied l.egress-items l.egress-index
