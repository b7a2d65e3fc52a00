use Rattle.std.proofs.Common.{◌≡◌, take, Contains, option_and_then}
use Rattle.rcp_base.specs.IpPrefix.{IpPrefix}
use Rattle.replica_law.specs.Replicas.{slot_of}
use Rattle.replica_law.proofs.routes.first_prefix.Given as goal

abbrev pub invariant-loop-prefix : goal.invariant-loop-prefix
invariant-loop-prefix g l =
    (p : IpPrefix) → Contains (take l.prefix-index l.found.prefixes.items) p
    → option_and_then (g.X.Assigned.announced l.first p) (slot_of (g.X.Costs.members l.first) l.router) ≡ option_and_then (g.Y.Assigned.announced l.second p) (slot_of (g.Y.Costs.members l.second) l.router)
