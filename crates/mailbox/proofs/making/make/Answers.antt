use Rattle.mailbox.proofs.Moves.{begins}
use Rattle.mailbox.proofs.making.make.Goals as goal

pub ruled-requires-clause-rule : goal.ruled-requires-clause-rule
ruled-requires-clause-rule g c = begins
