use Rattle.std.proofs.Common.{length, refl, ap, subst, arith}
use Rattle.rcp_model.specs.RouteServer.{cost_differs}
use Rattle.rcs_shard.proofs.MovedLemmas.{Flagging, flagging_none, flagging_more, flagging_all}
use Rattle.rcs_shard.proofs.marking.moved_slots.Goals as goal

pub loop-slot-init : goal.loop-slot-init
loop-slot-init c = flagging_none (λ e. cost_differs c.args.before.now.edges c.args.now.now.edges c.args.before.now.members e (length c.args.before.now.members)) 512 refl

pub loop-slot-preserved : goal.loop-slot-preserved
loop-slot-preserved c =
    let few = c.members-slot-end.ensures.distinct.few in
    let same = ap length c.members-slot-end.ensures.members in
    flagging_more (λ e. cost_differs c.args.before.now.edges c.args.now.now.edges c.args.before.now.members e (length c.args.before.now.members)) c.loop-slot.slot c.loop-slot.moved c.is_moved.result
    (omega (arith, few, same, c.loop-slot-test.true)) c.is_moved.ensures c.loop-slot.invariant

pub returns : goal.returns
returns c =
    let same = ap length c.members-slot-end.ensures.members in
    flagging_all c.args.before.now.edges c.args.now.now.edges c.args.before.now.members c.loop-slot.moved
    (subst (λ n. Flagging (λ e. cost_differs c.args.before.now.edges c.args.now.now.edges c.args.before.now.members e (length c.args.before.now.members)) n c.loop-slot.moved)
    (omega (arith, same, c.loop-slot-test.false, c.loop-slot.auto.slot-end)) c.loop-slot.invariant)
