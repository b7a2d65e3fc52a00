-- What `next` leaves once its packet is no longer borrowed.
use Rattle.std.specs.Prelude.{◌≡◌}
use Rattle.std.specs.Borrow.{Fml, MutBor}
use Rattle.std.specs.Io.BufRead.{Rests}
use Rattle.ospf_packet.specs.Framing.{Framing, after_next}
use Rattle.ospf_packet.specs.contracts.framer.Framer.{the_row}

abbrev pub EndsAs : MutBor Framing → Fml
EndsAs framer = Rests the_row framer (λ last. last ≡ after_next framer.now)
