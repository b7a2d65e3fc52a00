-- The messages are those of the groups so far.
use Rattle.std.proofs.Common.{◌≡◌, map, take}
use Rattle.std.specs.Prelude.{flat_map}
use Rattle.rcp_model.specs.Packing.{group_updates}
use Rattle.update_pack.specs.Shown.{groups_in}
use Rattle.update_pack.proofs.filling.write_groups.Given as goal

abbrev pub invariant-loop-group : goal.invariant-loop-group
invariant-loop-group l = map (λ m. m.items) l.messages.items ≡ flat_map group_updates (groups_in (take l.group-index l.groups))
