-- Numbers one after another.
use Rattle.std.specs.Prelude.{ℕ, List}
use Rattle.std.specs.List.{range_with_len}

-- so many numbers from the first one on
unfoldable pub numbers_from : ℕ → ℕ → List ℕ
numbers_from first count = range_with_len first count
