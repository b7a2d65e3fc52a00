use Rattle.std.proofs.Common.{arith}
use Rattle.path_attrs.specs.Shown.{shown}
use Rattle.path_attrs.proofs.Written.{Appends-then, parts_are, parts_long}
use Rattle.path_attrs.proofs.value.Value.put.Goals as goal

pub put_header-at-requires-clause-room : goal.put_header-at-requires-clause-room
put_header-at-requires-clause-room g c =
    omega (arith, parts_long (shown c.args.self.now) _ _ _ c.flags.ensures c.kind.ensures c.value_len.ensures, c.requires.room)

pub put_value-requires-clause-room : goal.put_value-requires-clause-room
put_value-requires-clause-room g c =
    omega (arith, parts_long (shown c.args.self.now) _ _ _ c.flags.ensures c.kind.ensures c.value_len.ensures, c.requires.room, c.put_header-at.ensures.appends.end_is, c.put_header-at.ensures.size)

-- header and value are the attribute
pub returns-clause-appends : goal.returns-clause-appends
returns-clause-appends g c =
    rw (← parts_are (shown c.args.self.now) _ _ _ c.flags.ensures c.kind.ensures c.value_len.ensures)
    (Appends-then _ _ _ _ _ _ _ _ c.put_header-at.ensures.appends c.put_value.ensures.appends)
