use Rattle.rcp_model.specs.RouteServer.{slot_cost}
use Rattle.decision.proofs.ChoosingLemmas.{Passed}
use Rattle.decision.proofs.choosing.choose.Given as goal

abbrev pub invariant-loop-candidate : goal.invariant-loop-candidate
invariant-loop-candidate g l = Passed l.slot (slot_cost (g.V.Costs.edges l.view) (g.V.Costs.members l.view) l.slot) l.list l.candidate-index l.nearest
