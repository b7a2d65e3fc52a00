use Rattle.std.proofs.Common.{sym, subst}
use Rattle.seats.specs.Seats.{IsBook}
use Rattle.seats.proofs.Books.{book-new}
use Rattle.seats.proofs.seat_book.SeatBook.new.Goals as goal

pub new-book-requires : goal.new-book-requires
new-book-requires g c =
    subst (IsBook g.B.SeatNames.places g.B.SeatNames.shard_mailboxes g.B.SeatNames.offer_mailbox) (sym c.in_ok-places_with.ensures)
    (book-new _ _ _ c.args.seats.items c.requires.places c.requires.seats)
