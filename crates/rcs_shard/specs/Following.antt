-- What a shard is given beside another view: the slots to which costs changed.
use Rattle.std.specs.Prelude.{◌≡◌, ℕ, Bool, List, length}
use Rattle.rcp_base.specs.declared.names.Edge.{Edge}
use Rattle.rcp_base.specs.declared.names.Member.{Member}
use Rattle.rcp_model.specs.RouteServer.{cost_differs}
use Rattle.rcs_shard.specs.Slots.{flag_at}

-- flagged are exactly the slots to which the cost from some slot differs before and after
abbrev pub AreMoved : List Edge → List Edge → List Member → List Bool → Type 0
AreMoved before after members flags = (slot : ℕ) → flag_at flags slot ≡ cost_differs before after members slot (length members)
