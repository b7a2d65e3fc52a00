use Rattle.std.proofs.Common.{◌≡◌, ℕ, ◌<◌, true, Some}
use Rattle.rcp_model.specs.RouteServer.{router_at}
use Rattle.hop_walk.proofs.choosing.connected_slot.Given as goal

abbrev pub invariant-loop-place : goal.invariant-loop-place
invariant-loop-place g l =
    (slot : ℕ) → slot < l.place → router_at (g.X.Costs.members l.platform) slot ≡ Some l.router → g.X.Assigned.connected l.platform slot ≡ true → ⊥
