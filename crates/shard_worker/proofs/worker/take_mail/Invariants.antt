use Rattle.std.proofs.Common.{◌≡◌, ℕ, List, length}
use Rattle.shard_worker.specs.Runs.{Letter, RunOf, after_messages}
use Rattle.shard_worker.specs.Ends.{InboxOf, inbox_of}
use Rattle.shard_worker.proofs.MailLemmas.{taken_more}
use Rattle.shard_worker.proofs.worker.take_mail.Given as goal

-- so many messages were taken, and done
pub record IsTaking (count : ℕ) (before after : InboxOf) (old new : RunOf) : Type 0 where
  pub letters : List Letter
  pub count_is : length letters ≡ count
  pub taken : after ≡ taken_more before letters
  pub done : new ≡ after_messages letters old

abbrev pub invariant-loop-count : goal.invariant-loop-count
invariant-loop-count g l = IsTaking l.count (inbox_of l.fn.mail) (inbox_of l.mail) l.fn.running l.running
