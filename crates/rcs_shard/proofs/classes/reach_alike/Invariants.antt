use Rattle.std.proofs.Common.{◌≡◌, ℕ, ◌<◌, is_some}
use Rattle.rcp_model.specs.RouteServer.{slot_cost}
use Rattle.rcs_shard.proofs.classes.reach_alike.Given as goal

abbrev pub invariant-loop-to : goal.invariant-loop-to
invariant-loop-to l = (e : ℕ) → e < l.to → is_some (slot_cost l.view.edges l.view.members l.a e) ≡ is_some (slot_cost l.view.edges l.view.members l.b e)
