-- Sums over the numbers below one.
use Rattle.std.specs.Prelude.{ℕ, zero, suc, ◌+◌}

abbrev pub total_below : (ℕ → ℕ) → ℕ → ℕ
total_below f zero = 0
total_below f (suc count) = total_below f count + f count
