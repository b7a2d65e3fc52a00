use Rattle.std.proofs.Common.{arith}
use Rattle.path_attrs.proofs.Paths.{length_numbers}
use Rattle.path_attrs.proofs.path.Segment.octets_len.Goals as goal

pub returns : goal.returns
returns c = rw (← c.self.view_is) (omega (arith, length_numbers c.self.inside.numbers.items, c.len.ensures.value))
