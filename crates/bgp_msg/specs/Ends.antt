-- What `next` leaves once its message is no longer borrowed.
use Rattle.std.specs.Prelude.{◌≡◌, ℕ, List}
use Rattle.std.specs.Borrow.{Fml, MutBor}
use Rattle.std.specs.Io.BufRead.{Rests}
use Rattle.bgp_msg.specs.Cutting.{after_next}
use Rattle.bgp_msg.specs.contracts.cutter.Cutter.{the_row}

abbrev pub EndsAs : MutBor (List ℕ) → Fml
EndsAs cutter = Rests the_row cutter (λ last. last ≡ after_next cutter.now)
