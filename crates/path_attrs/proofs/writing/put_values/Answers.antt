use Rattle.std.proofs.Common.{arith}
use Rattle.path_attrs.specs.Shown.{shown}
use Rattle.path_attrs.proofs.Canonical.{next_fits}
use Rattle.path_attrs.proofs.Faultless.{attribute_long}
use Rattle.path_attrs.proofs.writing.put_values.Goals as goal

pub put-end-requires-clause-short : goal.put-end-requires-clause-short
put-end-requires-clause-short g c =
    omega (arith, attribute_long (shown c.value-item.result), next_fits c.args.values.now c.loop-value.value-index c.value-item.result c.loop-value-test.true c.value-item.is, c.requires.short)

pub put-end-requires-clause-room : goal.put-end-requires-clause-room
put-end-requires-clause-room g c =
    omega (arith, next_fits c.args.values.now c.loop-value.value-index c.value-item.result c.loop-value-test.true c.value-item.is, c.requires.room)
