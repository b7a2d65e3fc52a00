-- The numbers of a generated feed are drawn from its number: a linear congruence modulo 2^64, of whose state the high 32 bits count.
use Rattle.std.specs.Prelude.{ℕ, zero, suc, ◌+◌, ◌*◌, ◌/◌, ◌%◌, ◌^◌}

abbrev pub next : ℕ → ℕ
next state = (state * 6364136223846793005 + 1442695040888963407) % 2 ^ 64

-- the state after so many draws: the feed's number before the first
unfoldable pub state_after : ℕ → ℕ → ℕ
state_after number zero = number
state_after number (suc draws) = next (state_after number draws)

-- the draw that comes after so many: below the last number
unfoldable pub draw : ℕ → ℕ → ℕ → ℕ
draw number place below = next (state_after number place) / 2 ^ 32 % below

-- the number that draws began with, and how many were made
pub record DrawsOf : Type 0 where
  pub number : ℕ
  pub drawn : ℕ
