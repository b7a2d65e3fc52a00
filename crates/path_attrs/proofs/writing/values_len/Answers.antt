use Rattle.std.proofs.Common.{arith}
use Rattle.path_attrs.specs.Shown.{shown}
use Rattle.path_attrs.proofs.Canonical.{next_fits}
use Rattle.path_attrs.proofs.Faultless.{attribute_long}
use Rattle.path_attrs.proofs.writing.values_len.Goals as goal

pub octets_len-len-requires : goal.octets_len-len-requires
octets_len-len-requires c =
    omega (arith, attribute_long (shown c.value-item.result), next_fits c.args.values.now c.loop-value.value-index c.value-item.result c.loop-value-test.true c.value-item.is, c.requires)

pub overflow_add-len : goal.overflow_add-len
overflow_add-len c =
    omega (arith, c.octets_len-len.ensures, c.loop-value.invariant, next_fits c.args.values.now c.loop-value.value-index c.value-item.result c.loop-value-test.true c.value-item.is, c.requires)
