use Rattle.std.proofs.Common.{arith}
use Rattle.path_attrs.proofs.Canonical.{default_long}
use Rattle.path_attrs.proofs.writing.put_default.Goals as goal

pub put-requires-clause-room : goal.put-requires-clause-room
put-requires-clause-room g c = omega (arith, default_long, rw c.if-there.false at c.requires.room)
