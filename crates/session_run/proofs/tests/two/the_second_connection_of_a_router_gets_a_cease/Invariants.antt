-- The book is named by the mailboxes of its one seat.
use Rattle.std.proofs.Common.{map}
use Rattle.mailbox.specs.Boxes.{mailbox_of, mailbox_at}
use Rattle.session_run.proofs.tests.two.the_second_connection_of_a_router_gets_a_cease.Given as goal

abbrev pub ghosts-serve_both : goal.ghosts-serve_both
ghosts-serve_both g a = record { shard_mailboxes = λ slot. map mailbox_of a.shards.items; offer_mailbox = λ slot. mailbox_at a.offers; places = 1 }
