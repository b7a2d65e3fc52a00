use Rattle.std.proofs.Common.{List, ◌++◌, ap, ◌∙◌}
use Rattle.rcp_base.specs.Feed.{OutRecord}
use Rattle.rcs_shards.specs.Servers.{least_pending}
use Rattle.platform_core.proofs.CarryLemmas.{keeps_worked}
use Rattle.platform_core.proofs.LinkLemmas.{on_ok}
use Rattle.platform_core.proofs.WorkLemmas.{sent_by}
use Rattle.platform_core.proofs.work.work_slice.Goals as goal

pub returns-in_err-lists-clause-kept : goal.returns-in_err-lists-clause-kept
returns-in_err-lists-clause-kept c = keeps_worked (least_pending c.args.number c.args.count c.args.shards.now) c.args.shards.now c.work_least.new.self c.work_least.ensures.after

pub returns-clause-kept : goal.returns-clause-kept
returns-clause-kept c = keeps_worked (least_pending c.args.number c.args.count c.args.shards.now) c.args.shards.now c.work_least.new.self c.work_least.ensures.after

pub returns-clause-output : goal.returns-clause-output
returns-clause-output c =
    on_ok c.put_out.result (λ put.
    put ∙ ap (λ (l : List OutRecord). c.args.out.now ++ l)
    (sent_by (least_pending c.args.number c.args.count c.args.shards.now) c.args.shards.now c.work_least.new.self c.args.connections.now.sessions c.deref-2.result.now c.deref.result.now c.in_ok-lists.lists.items
    (c.deref-2.ensures.value ∙ c.in_ok-established.ensures.numbers) (c.deref.ensures.value ∙ c.in_ok-established.ensures.slots) c.in_ok-lists.ensures.sent)) c.put_out.ensures
