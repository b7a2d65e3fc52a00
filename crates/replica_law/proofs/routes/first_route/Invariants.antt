use Rattle.std.proofs.Common.{◌≡◌, ℕ, take, Contains, option_and_then}
use Rattle.rcp_base.specs.IpPrefix.{IpPrefix}
use Rattle.replica_law.specs.Replicas.{slot_of}
use Rattle.replica_law.proofs.routes.first_route.Given as goal

abbrev pub invariant-loop-router : goal.invariant-loop-router
invariant-loop-router g l =
    (u : ℕ) → Contains (take l.router-index l.routers) u → (p : IpPrefix)
    → option_and_then (g.X.Assigned.announced l.first p) (slot_of (g.X.Costs.members l.first) u) ≡ option_and_then (g.Y.Assigned.announced l.second p) (slot_of (g.Y.Costs.members l.second) u)
