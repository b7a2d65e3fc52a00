-- The walk has come to `at`, and to the place that is asked for not before.
use Rattle.std.proofs.Common.{◌≡◌, ◌≤◌, ℕ, Some, length}
use Rattle.lsa_reader.specs.Walking.{place_after}
use Rattle.lsa_reader.proofs.walking.is_done.Given as goal

abbrev pub invariant-loop-ended : goal.invariant-loop-ended
invariant-loop-ended l =
    (place_after l._ended l.packet ≡ Some l.at)
    × ((n : ℕ) → place_after n l.packet ≡ Some l.place → l._ended ≤ n)
    × (l.at ≤ length l.packet)
