-- The book is named by the mailboxes of its one seat.
use Rattle.std.proofs.Common.{map}
use Rattle.mailbox.specs.Boxes.{mailbox_of, mailbox_at}
use Rattle.session_run.proofs.tests.ends.ended.Given as goal

abbrev pub ghosts-serve_alone : goal.ghosts-serve_alone
ghosts-serve_alone g a = record { shard_mailboxes = λ slot. map mailbox_of a.shards.items; offer_mailbox = λ slot. mailbox_at a.offers; places = 1 }
