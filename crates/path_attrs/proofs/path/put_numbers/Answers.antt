use Rattle.std.proofs.Common.{arith}
use Rattle.path_attrs.specs.Width.{number_octets}
use Rattle.std.proofs.lemmas.List.Folds.{length-flat_map-take}
use Rattle.path_attrs.proofs.path.put_numbers.Goals as goal

pub put_number-end-requires-clause-room : goal.put_number-end-requires-clause-room
put_number-end-requires-clause-room g c =
    omega (arith, length-flat_map-take number_octets c.args.numbers.now c.loop-number.number-index 0 c.loop-number-test.true)
