use Rattle.std.proofs.Common.{List, ◌++◌, ap, ◌∙◌}
use Rattle.rcp_base.specs.Feed.{OutRecord}
use Rattle.platform_laws.specs.Asked.{all_pending}
use Rattle.platform_core.proofs.CarryLemmas.{keeps_worked}
use Rattle.platform_core.proofs.LinkLemmas.{on_ok}
use Rattle.platform_core.proofs.WorkLemmas.{sent_by}
use Rattle.platform_core.proofs.work.work_all.Goals as goal

pub returns-in_err-lists-clause-kept : goal.returns-in_err-lists-clause-kept
returns-in_err-lists-clause-kept g c = keeps_worked (all_pending c.args.shards.now.shards) c.args.shards.now c.work_all.new.self c.work_all.ensures.after

pub returns-clause-kept : goal.returns-clause-kept
returns-clause-kept g c = keeps_worked (all_pending c.args.shards.now.shards) c.args.shards.now c.work_all.new.self c.work_all.ensures.after

pub returns-clause-output : goal.returns-clause-output
returns-clause-output g c =
    on_ok c.put_out.result (λ put.
    put ∙ ap (λ (l : List OutRecord). c.args.out.now ++ l)
    (sent_by (all_pending c.args.shards.now.shards) c.args.shards.now c.work_all.new.self c.args.connections.now.sessions c.deref-2.result.now c.deref.result.now c.in_ok-lists.lists.items
    (c.deref-2.ensures.value ∙ c.in_ok-established.ensures.numbers) (c.deref.ensures.value ∙ c.in_ok-established.ensures.slots) c.in_ok-lists.ensures.sent)) c.put_out.ensures
