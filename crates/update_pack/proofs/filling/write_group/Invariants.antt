-- The messages so far and those of what is left are those before and those of the whole group.
use Rattle.std.proofs.Common.{◌≡◌, ◌++◌, map, length}
use Rattle.rcp_model.specs.Packing.{update_of, fill, group_updates}
use Rattle.update_pack.specs.Values.{value_in}
use Rattle.update_pack.specs.Shown.{group_in}
use Rattle.update_pack.proofs.filling.write_group.Given as goal

abbrev pub invariant-loop-attrs : goal.invariant-loop-attrs
invariant-loop-attrs l =
    map (λ m. m.items) l.messages.items ++ map (update_of (value_in l.fn.group.attrs)) (fill (value_in l.fn.group.attrs) l.rest)
    ≡ map (λ m. m.items) l.fn.messages.items ++ group_updates (group_in l.fn.group)

abbrev pub decreases-loop-attrs : goal.decreases-loop-attrs
decreases-loop-attrs l = length l.rest
