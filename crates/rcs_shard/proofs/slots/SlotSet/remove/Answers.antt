use Rattle.std.proofs.Common.{◌≡◌, ◌<◌, length, ap, ◌∙◌, arith}
use Rattle.std.specs.FinSet as set_of
use Rattle.rcs_shard.specs.Slots.{SlotsOf}
use Rattle.rcs_shard.proofs.SlotLemmas.{removed}
use Rattle.rcs_shard.proofs.slots.SlotSet.remove.Goals as goal

pub returns : goal.returns
returns c =
    let is : c.slot.inside.0 ≡ c.args.slot = c.slot.view_is in
    let within : c.slot.inside.0 < length c.self.inside.flags.items = omega (arith, ap (λ (s : SlotsOf). s.members) c.self.view_is, c.requires) in
    removed c.self.inside.flags.items c.slot.inside.0 within
    ∙ (λ i. record (c.self.view_is i) { inside = set_of.remove (c.self.view_is i).inside (is i) })
