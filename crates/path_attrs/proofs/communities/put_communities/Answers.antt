use Rattle.std.proofs.Common.{arith}
use Rattle.std.specs.Int.{w32, to_be_bytes}
use Rattle.std.proofs.lemmas.List.Folds.{length-flat_map-take}
use Rattle.path_attrs.proofs.communities.put_communities.Goals as goal

pub put_u32-end-requires-clause-room : goal.put_u32-end-requires-clause-room
put_u32-end-requires-clause-room g c =
    omega (arith, length-flat_map-take (to_be_bytes w32) c.args.numbers.now c.loop-number.number-index 0 c.loop-number-test.true)
