use Rattle.seats.proofs.Books.{rests}
use Rattle.seats.proofs.tests.claim_twice.Goals as goal

pub give_back-requires : goal.give_back-requires
give_back-requires g c = rests _ _ 0 c.in-Ok.seat c.in-Ok.ensures.seat
