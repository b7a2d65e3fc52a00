-- With the candidates of the other members they are those of all.
use Rattle.std.proofs.Common.{◌≡◌, ◌++◌, drop}
use Rattle.rcp_model.specs.RouteServer.{slot_cost, candidates_from}
use Rattle.hop_walk.proofs.CandidateSteps.{domain_of}
use Rattle.hop_walk.proofs.choosing.candidates.Given as goal

abbrev pub invariant-loop-place : goal.invariant-loop-place
invariant-loop-place g l =
    l.list.items
    ++ candidates_from (domain_of (g.X.Assigned.as_number l.platform) (g.X.Costs.members l.platform)) (g.X.Assigned.announced l.platform l.prefix)
    (slot_cost (g.X.Costs.edges l.platform) (g.X.Costs.members l.platform) l.from) l.place (drop l.place (g.X.Costs.members l.platform))
    ≡ candidates_from (domain_of (g.X.Assigned.as_number l.platform) (g.X.Costs.members l.platform)) (g.X.Assigned.announced l.platform l.prefix)
    (slot_cost (g.X.Costs.edges l.platform) (g.X.Costs.members l.platform) l.from) 0 (g.X.Costs.members l.platform)
