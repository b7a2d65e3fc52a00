use Rattle.std.proofs.Common.{◌≡◌, [], length, map, All, arith, ap, sym, subst, ◌∙◌}
use Rattle.cost_rows.specs.Views.{ViewOf}
use Rattle.mailbox.specs.Boxes.{received, sent}
use Rattle.rcs_shard.specs.Shards.{ShardOf}
use Rattle.shard_worker.specs.Ends.{inbox_of, port_of}
use Rattle.shard_worker.specs.Workers.{WorkerOf, IsIdle}
use Rattle.shard_worker.proofs.KeptLemmas.{idle_new}
use Rattle.daemon_parts.proofs.PartsLemmas.{rest_all, shorter, rest_at, each_at, made_at}
use Rattle.daemon_parts.proofs.parts.workers_of.Goals as goal

pub new-requires-clause-members : goal.new-requires-clause-members
new-requires-clause-members c = ap (λ (view : ViewOf). view.members) (c.in_ok-view.ensures.view _ c.view.ensures.kept) ∙ c.requires.members

pub new-requires-in-loop-number-clause-idle : goal.new-requires-in-loop-number-clause-idle
new-requires-in-loop-number-clause-idle c = subst IsIdle (sym c.in_ok-shard.ensures) (idle_new _ _ _ _)

pub loop-number-preserved : goal.loop-number-preserved
loop-number-preserved c =
    let so_far = c.loop-number.invariant in
    let mail = c.in-Some-Some.ensures.items in
    let row = c.in-Some-Some.ensures'.items in
    record {
      mails = rest_all (λ mail. received mail ≡ []) _ _ _ mail so_far.mails;
      many_mails = shorter _ _ _ _ _ mail so_far.many_mails;
      rows = rest_all (λ row. (length row.items ≡ length c.args.roster.now.members) × All (λ sender. sent sender ≡ []) row.items) _ _ _ row so_far.rows;
      many_rows = shorter _ _ _ _ _ row so_far.many_rows;
      count = grind (arith, c.in_ok-push.ensures.len, so_far.count);
      rest_mails = rest_at _ _ _ _ _ mail so_far.rest_mails;
      rest_rows = rest_at _ _ _ _ _ row so_far.rest_rows;
      numbers = each_at (λ n worker. worker.run.shard.number ≡ n) _ _ _ _ so_far.count c.in_ok-push.ensures.items
          (ap (λ (worker : WorkerOf). worker.run.shard.number) c.new-in-loop-number.ensures.new ∙ ap (λ (shard : ShardOf). shard.number) c.in_ok-shard.ensures) so_far.numbers;
      inboxes = made_at _ _ _ _ _ (λ worker mail. worker.inbox ≡ inbox_of mail) _ _ _ mail so_far.rest_mails so_far.count c.in_ok-push.ensures.items
          (ap (λ (worker : WorkerOf). worker.inbox) c.new-in-loop-number.ensures.new) so_far.inboxes;
      ports = made_at _ _ _ _ _ (λ worker row. worker.ports ≡ map port_of row.items) _ _ _ row so_far.rest_rows so_far.count c.in_ok-push.ensures.items
          (ap (λ (worker : WorkerOf). worker.ports) c.new-in-loop-number.ensures.new) so_far.ports;
    }
