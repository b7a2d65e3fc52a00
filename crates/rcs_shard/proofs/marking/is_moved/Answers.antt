use Rattle.std.proofs.Common.{List, length, sym, ap, ◌∙◌, arith}
use Rattle.rcp_base.specs.declared.names.Member.{Member}
use Rattle.rcp_model.specs.RouteServer.{slot_cost}
use Rattle.rib_laws.proofs.PendingLemmas.{test_of_moves}
use Rattle.rcs_shard.proofs.MarkingLemmas.{costs_differ}
use Rattle.rcs_shard.proofs.marking.is_moved.Goals as goal

pub returns-then-ne : goal.returns-then-ne
returns-then-ne c =
    sym (test_of_moves c.args.before.now.edges c.args.now.now.edges c.args.before.now.members c.args.to (length c.args.before.now.members) c.loop-from.from
    (omega (arith, c.loop-from-test.true, ap length c.members-from-end.ensures.members))
    (λ same. costs_differ c.cost.result c.cost-in-loop-from.result (sym c.ne.ensures ∙ c.if-ne.true)
    (c.cost.ensures ∙ same ∙ sym (c.cost-in-loop-from.ensures ∙ ap (λ (m : List Member). slot_cost c.args.now.now.edges m c.loop-from.from c.args.to) c.requires))))
