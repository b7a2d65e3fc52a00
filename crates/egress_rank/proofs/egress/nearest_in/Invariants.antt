use Rattle.std.proofs.Common.{take}
use Rattle.rcp_model.specs.RouteServer.{slot_cost}
use Rattle.egress_rank.proofs.EgressLemmas.{Compared}
use Rattle.egress_rank.proofs.egress.nearest_in.Given as goal

abbrev pub invariant-loop-egress : goal.invariant-loop-egress
invariant-loop-egress l = Compared l.view.members (slot_cost l.view.edges l.view.members l.slot) l.slot (take l.egress-index l.tied) l.nearest
