use Rattle.std.proofs.Common.{◌≡◌, ◌++◌, ◌∷◌, [], true, is_ok, take, get_or, Some, sym, ap, ◌∙◌, arith}
use Rattle.std.proofs.lemmas.List.{take_more}
use Rattle.std.proofs.lemmas.Option.{get_or_from_slice_get, slice_get_within}
use Rattle.igp_view.proofs.views.members_of.Goals as goal

pub loop-slot-preserved : goal.loop-slot-preserved
loop-slot-preserved c =
    c.in_ok-push.ensures.items
    ∙ ap (λ members. members ++ c.member.result ∷ []) c.loop-slot.invariant
    ∙ ap (λ member. take c.loop-slot.slot c.args.roster.now.members ++ member ∷ []) (sym (get_or_from_slice_get c.args.roster.now.members c.loop-slot.slot c.member.result c.member.result c.member.ensures.value))
    ∙ sym (take_more c.args.roster.now.members c.loop-slot.slot c.member.result (slice_get_within c.args.roster.now.members c.loop-slot.slot c.member.result c.member.ensures.value))
