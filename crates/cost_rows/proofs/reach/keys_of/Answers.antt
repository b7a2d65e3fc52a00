use Rattle.std.proofs.Common.{sym, ◌∙◌, arith}
use Rattle.cost_rows.specs.Views.{cost_at}
use Rattle.cost_rows.proofs.KeyLemmas.{identifier_is, keyed_skip, keyed_push, cost_read}
use Rattle.cost_rows.proofs.reach.keys_of.Goals as goal
use Rattle.cost_rows.proofs.reach.keys_of.Goals.{in-Some+in_ok-push, in_default}

pub loop-slot-preserved : goal.loop-slot-preserved
loop-slot-preserved c =
    let read = cost_read c.args.costs.now c.loop-slot.slot c.index-costs-slot.result (omega arith) c.index-costs-slot.is in
    elim c.match-get.branch [
      | in-Some+in_ok-push w ↦
          rw (w.keys-is, w.in_ok-push.ensures.items)
          (keyed_push c.args.members.now (cost_at c.args.costs.now) c.loop-slot.keys.items c.loop-slot.slot w.in-Some.cost c.index-members-slot.result.bgp_id (read ∙ sym c.get.ensures ∙ w.in-Some.is)
          (identifier_is c.args.members.now c.loop-slot.slot c.index-members-slot.result c.loop-slot-test.true c.index-members-slot.is) c.loop-slot.invariant)
      | in_default w ↦ rw w.keys-is (keyed_skip c.args.members.now (cost_at c.args.costs.now) c.loop-slot.keys.items c.loop-slot.slot (read ∙ sym c.get.ensures ∙ w.in_default.is) c.loop-slot.invariant)
    ]
