use Rattle.std.proofs.Common.{false, get_or, sym, ap, ◌∙◌}
use Rattle.std.proofs.lemmas.Option.{unwrap_or-slice_get}
use Rattle.rcs_shard.specs.Slots.{SlotsOf, has_slot}
use Rattle.rcs_shard.proofs.SlotLemmas.{flagged, flag_past}
use Rattle.rcs_shard.proofs.slots.SlotSet.contains.Goals as goal

pub returns-in-Some : goal.returns-in-Some
returns-in-Some c =
    c.in-Some.ensures.lookup.3.1 false ∙ (λ i. get_or (c.deref.ensures.value i) (c.slot.view_is i) false)
    ∙ sym (unwrap_or-slice_get c.self.inside.flags.items c.args.slot false) ∙ sym (flagged c.self.inside.flags.items c.args.slot)
    ∙ ap (λ (s : SlotsOf). has_slot s c.args.slot) c.self.view_is

pub returns-in-None : goal.returns-in-None
returns-in-None c =
    sym (flagged c.self.inside.flags.items c.slot.inside.0 ∙ flag_past c.self.inside.flags.items c.deref.result.now c.slot.inside.0 c.deref.ensures.value c.in-None.ensures.lookup.3)
    ∙ (λ i. has_slot (c.self.view_is i) (c.slot.view_is i))
