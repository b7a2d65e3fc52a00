use Rattle.std.proofs.Common.{◌≤◌, false, length, get_or, refl, sym, ap, subst, ◌∙◌}
use Rattle.std.proofs.lemmas.Option.{unwrap_or-slice_get}
use Rattle.rcs_shard.proofs.SlotLemmas.{flag_past}
use Rattle.rcs_shard.proofs.marking.is_flagged.Goals as goal

pub returns-in-Some : goal.returns-in-Some
returns-in-Some c =
    c.in-Some.ensures.lookup.3.1 false ∙ ap (λ k. get_or c.args.flags.now k false) c.slot.view_is ∙ sym (unwrap_or-slice_get c.args.flags.now c.args.slot false)

pub returns-in-None : goal.returns-in-None
returns-in-None c =
    sym (flag_past c.args.flags.now c.args.flags.now c.args.slot refl (subst (λ k. length c.args.flags.now ≤ k) c.slot.view_is c.in-None.ensures.lookup.3))
