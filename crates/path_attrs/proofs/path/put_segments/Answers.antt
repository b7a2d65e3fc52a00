use Rattle.std.proofs.Common.{arith}
use Rattle.path_attrs.specs.Segments.{segment_octets}
use Rattle.std.proofs.lemmas.List.Folds.{length-flat_map-take}
use Rattle.path_attrs.proofs.path.put_segments.Goals as goal

pub put-end-requires-clause-room : goal.put-end-requires-clause-room
put-end-requires-clause-room g c =
    let next = length-flat_map-take segment_octets c.args.segments.now c.loop-segment.segment-index c.segment-item.result c.loop-segment-test.true in
    omega (arith, rw (← c.segment-item.is) at next)
