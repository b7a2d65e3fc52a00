use Rattle.mailbox.proofs.Moves.{enrols}
use Rattle.mailbox.proofs.making.split.Goals as goal

pub another-requires : goal.another-requires
another-requires g c = record { queue = c.requires.queue; rule = enrols _ _ c.requires.reads }
