-- The seats are named for the mailboxes that they have.
use Rattle.std.proofs.Common.{length, slice_get}
use Rattle.rcpd_run.specs.Names.{shard_mailboxes_of, offer_mailbox_of}
use Rattle.rcpd_run.proofs.serving.serve.Given as goal

abbrev pub ghosts-serve_with : goal.ghosts-serve_with
ghosts-serve_with g a = record {
  shard_mailboxes = λ slot. shard_mailboxes_of (slice_get a.parts.seats.items slot);
  offer_mailbox = λ slot. offer_mailbox_of (slice_get a.parts.seats.items slot);
  places = length a.parts.seats.items;
}
