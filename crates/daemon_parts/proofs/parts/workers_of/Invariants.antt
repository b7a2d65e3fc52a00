-- The mailboxes and the rows that are left are as they were given, and those before are in the workers.
use Rattle.std.proofs.Common.{◌≡◌, ℕ, ◌+◌, ◌<◌, [], length, map, All, slice_index_or}
use Rattle.mailbox.specs.Boxes.{received, sent}
use Rattle.shard_worker.specs.Ends.{inbox_of, port_of}
use Rattle.shard_worker.specs.Workers.{WorkerOf}
use Rattle.daemon_parts.proofs.parts.workers_of.Given as goal

abbrev pub invariant-loop-number : goal.invariant-loop-number
invariant-loop-number l = record {
  mails : All (λ mail. received mail ≡ []) l.mails.items;
  many_mails : l.number + length l.mails.items ≡ l.roster.shards;
  rows : All (λ row. (length row.items ≡ length l.roster.members) × All (λ sender. sent sender ≡ []) row.items) l.offers.items;
  many_rows : l.number + length l.offers.items ≡ l.roster.shards;
  count : length l.workers.items ≡ l.number;
  rest_mails : (k : ℕ) (d : _) → slice_index_or l.mails.items k d ≡ slice_index_or l.fn.mails.items (l.number + k) d;
  rest_rows : (k : ℕ) (d : _) → slice_index_or l.offers.items k d ≡ slice_index_or l.fn.offers.items (l.number + k) d;
  numbers : (shard : ℕ) (worker : WorkerOf) → shard < l.number → (slice_index_or l.workers.items shard worker).run.shard.number ≡ shard;
  inboxes : (shard : ℕ) (worker : WorkerOf) (mail : _) → shard < l.number → (slice_index_or l.workers.items shard worker).inbox ≡ inbox_of (slice_index_or l.fn.mails.items shard mail);
  ports : (shard : ℕ) (worker : WorkerOf) (row : _) → shard < l.number → (slice_index_or l.workers.items shard worker).ports ≡ map port_of (slice_index_or l.fn.offers.items shard row).items;
}
