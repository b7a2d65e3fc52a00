use Rattle.mailbox.proofs.Moves.{retires}
use Rattle.mailbox.proofs.making.join.Goals as goal

pub absorb-requires : goal.absorb-requires
absorb-requires g c = record { queue = c.requires.queue; rule = retires _ _ _ _ c.requires.reads }
