use Rattle.std.proofs.Common.{◌≡◌, ◌++◌, ◌∷◌, map, length}
use Rattle.std.specs.Fmt.{decimal}
use Rattle.std.specs.List.{flat_map, join_with_byte}
use Rattle.rcp_model.specs.Attributes.{numbers_in, number_width}
use Rattle.path_attrs.proofs.text.put_numbers.Given as goal

abbrev pub invariant-loop-number : goal.invariant-loop-number
invariant-loop-number l =
    l.text.items ++ flat_map (λ t. l.between ∷ t) (map decimal (numbers_in number_width l.rest))
    ≡ l.fn.text.items ++ join_with_byte l.between (map decimal (numbers_in number_width l.octets))

abbrev pub decreases-loop-number : goal.decreases-loop-number
decreases-loop-number l = length l.rest
