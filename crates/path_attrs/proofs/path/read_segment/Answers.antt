use Rattle.std.proofs.Common.{◌≡◌, ◌/◌, length, refl, ap, arith}
use Rattle.path_attrs.proofs.Paths.{length_numbers}
use Rattle.path_attrs.proofs.path.read_segment.Goals as goal

pub invariant_of-result : goal.invariant_of-result
invariant_of-result c =
    omega (arith, length_numbers c.in_ok-numbers.numbers.items, ap length c.in_ok-numbers.ensures.spelled, c.requires.few)

pub returns-clause-spelled : goal.returns-clause-spelled
returns-clause-spelled c =
    let count : length c.in_ok-numbers.numbers.items ≡ length c.args.octets.now / 2 = omega (arith, length_numbers c.in_ok-numbers.numbers.items, ap length c.in_ok-numbers.ensures.spelled) in
    rw (count, c.in_ok-numbers.ensures.spelled) refl
