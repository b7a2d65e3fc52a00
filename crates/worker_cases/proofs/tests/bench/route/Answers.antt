use Rattle.std.proofs.Common.{refl}
use Rattle.rcp_model.specs.Attributes.{attribute_size, segment_size, number_size, attribute_fault, list_fault, attributes_fault, canonical, attribute_octets}
use Rattle.worker_cases.proofs.tests.bench.route.Goals as goal

-- the octets are canonical, and short
pub invariant_of-result : goal.invariant_of-result
unfolding attribute_size segment_size number_size attribute_fault list_fault attributes_fault canonical attribute_octets
invariant_of-result c = rw (c.in_ok-new.ensures.ok, c.in_ok-octets.ensures) (record { canonical_attrs = refl; complete = refl; long_is = refl })
