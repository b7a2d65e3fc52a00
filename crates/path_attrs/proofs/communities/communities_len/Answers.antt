use Rattle.std.proofs.Common.{refl, arith}
use Rattle.std.specs.Int.{w32, to_be_bytes}
use Rattle.path_attrs.proofs.Pieces.{length-flat_map_even}
use Rattle.path_attrs.proofs.communities.communities_len.Goals as goal

pub overflow_mul-result : goal.overflow_mul-result
overflow_mul-result c = omega (arith, length-flat_map_even (to_be_bytes w32) 4 (λ n. refl) c.args.numbers.now)

pub returns : goal.returns
returns c = omega (arith, length-flat_map_even (to_be_bytes w32) 4 (λ n. refl) c.args.numbers.now)
