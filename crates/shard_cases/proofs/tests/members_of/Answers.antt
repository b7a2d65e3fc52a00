use Rattle.std.proofs.Common.{◌++◌, ◌∷◌, [], take, sym, ap, ◌∙◌}
use Rattle.std.proofs.lemmas.List.{take_more}
use Rattle.std.proofs.lemmas.Option.{slice_get_within, get_or_from_slice_get}
use Rattle.rcp_base.specs.declared.names.Member.{Member}
use Rattle.shard_cases.proofs.tests.members_of.Goals as goal

pub loop-slot-preserved : goal.loop-slot-preserved
loop-slot-preserved c =
    let members = c.args.roster.now.members in
    c.in_ok-push.ensures.items ∙ (λ i. c.loop-slot.invariant i ++ c.member.result ∷ [])
    ∙ sym (take_more members c.loop-slot.slot c.member.result (slice_get_within members c.loop-slot.slot c.member.result c.member.ensures.value)
    ∙ ap (λ (m : Member). take c.loop-slot.slot members ++ m ∷ []) (get_or_from_slice_get members c.loop-slot.slot c.member.result c.member.result c.member.ensures.value))
