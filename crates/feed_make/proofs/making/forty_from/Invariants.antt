-- The routers so far, in their places.
use Rattle.std.proofs.Common.{◌≡◌, ℕ, ◌+◌, ◌<◌, length, get_or}
use Rattle.feed_make.proofs.making.forty_from.Given as goal

abbrev pub invariant-loop-i : goal.invariant-loop-i
invariant-loop-i l = (length l.routers ≡ 40) × ((k : ℕ) → k < l.i → get_or l.routers k 0 ≡ l.first + k)
