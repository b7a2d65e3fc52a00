use Rattle.std.proofs.Common.{◌≡◌, ℕ, take, Contains}
use Rattle.rcp_model.specs.Costs.{edge_cost}
use Rattle.replica_law.proofs.partition_differences.first_link.Given as goal

abbrev pub invariant-loop-from : goal.invariant-loop-from
invariant-loop-from l = (u : ℕ) → Contains (take l.from-index l.routers) u → (v : ℕ) → edge_cost l.first u v ≡ edge_cost l.second u v
