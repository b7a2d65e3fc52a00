use Rattle.std.proofs.Common.{◌≡◌, ◌<◌, length, Some, sym, arith}
use Rattle.seats.proofs.Books.{book-some}
use Rattle.seats.proofs.book.Book.put_back.Goals as goal

pub invariant_of-self : goal.invariant_of-self
invariant_of-self g c =
    let at : c.args.seat.slot ≡ c.from-place.result = cc in
    book-some _ _ _ c.self.inside.seats.items c.self.invariant c.from-place.result c.args.seat (omega arith) at c.requires

pub invariant_of-self-then-place-len-2 : goal.invariant_of-self-then-place-len-2
invariant_of-self-then-place-len-2 g c =
    let at : c.args.seat.slot ≡ c.from-place.result = cc in
    book-some _ _ _ c.self.inside.seats.items c.self.invariant c.from-place.result c.args.seat (omega arith) at c.requires
