use Rattle.std.proofs.Common.{false, replicate, ap, ◌∙◌}
use Rattle.rcs_shard.proofs.SlotLemmas.{no_slots}
use Rattle.rcs_shard.proofs.slots.SlotSet.new.Goals as goal

pub returns : goal.returns
returns c =
    no_slots c.args.members c.in_ok-flags.flags.items
    (c.in_ok-flags.ensures.items_if_clones_equal (λ y h. h) ∙ ap (λ n. replicate n false) c.from.ensures)
