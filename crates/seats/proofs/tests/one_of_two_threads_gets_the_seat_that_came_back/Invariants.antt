-- The book is named by the mailboxes of its one seat.
use Rattle.std.proofs.Common.{map}
use Rattle.mailbox.specs.Boxes.{mailbox_of, mailbox_at}
use Rattle.seats.proofs.tests.one_of_two_threads_gets_the_seat_that_came_back.Given as goal

abbrev pub ghosts-claim_and_give_back : goal.ghosts-claim_and_give_back
ghosts-claim_and_give_back g a = record { shard_mailboxes = λ slot. map mailbox_of a.shards.items; offer_mailbox = λ slot. mailbox_at a.offers; places = 1 }
