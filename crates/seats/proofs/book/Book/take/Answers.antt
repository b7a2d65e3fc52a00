use Rattle.std.proofs.Common.{◌≡◌, ◌<◌, length, Some, None, sym, subst, ap, ◌∙◌, arith}
use Rattle.std.proofs.lemmas.List.{get_or_read}
use Rattle.seats.specs.Seats.{SeatOf, IsClaimed, place_of}
use Rattle.seats.proofs.Books.{book-none, claimed}
use Rattle.seats.proofs.book.Book.take.Goals as goal

pub invariant_of-self : goal.invariant_of-self
invariant_of-self g c = book-none _ _ _ c.self.inside.seats.items c.self.invariant c.from-place.result c.take.new.self (omega arith) c.take.ensures.after

pub returns-in-Some-clause-seat : goal.returns-in-Some-clause-seat
returns-in-Some-clause-seat g c =
    let at : c.from-place.result ≡ c.args.slot = cc in
    let here : place_of c.self.inside.seats.items c.args.slot ≡ Some c.in-Some.seat =
    ap (place_of c.self.inside.seats.items) (sym at)
    ∙ (sym (get_or_read c.self.inside.seats.items _ _ (omega arith) c.index_mut.ensures.value None) ∙ (sym c.take.ensures.value ∙ c.in-Some.is)) in
    subst (IsClaimed g.B.SeatNames.shard_mailboxes g.B.SeatNames.offer_mailbox c.args.slot) (sym c.raised.ensures)
    (claimed _ _ _ c.self.inside.seats.items c.self.invariant c.args.slot c.in-Some.seat here)
