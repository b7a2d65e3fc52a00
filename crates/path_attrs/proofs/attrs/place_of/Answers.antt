use Rattle.std.proofs.Common.{arith}
use Rattle.path_attrs.proofs.Inserting.{placed_here, placed_later}
use Rattle.path_attrs.proofs.attrs.place_of.Goals as goal

pub returns-then-kind-clause-place : goal.returns-then-kind-clause-place
returns-then-kind-clause-place c a same =
    placed_here c.args.values.now c.loop-place.place c.index-values-place.result c.loop-place-test.true c.index-values-place.is a (omega arith) (c.loop-place.invariant a same)

pub loop-place-preserved : goal.loop-place-preserved
loop-place-preserved c a same =
    placed_later c.args.values.now c.loop-place.place c.index-values-place.result c.loop-place-test.true c.index-values-place.is a (omega arith) (c.loop-place.invariant a same)
