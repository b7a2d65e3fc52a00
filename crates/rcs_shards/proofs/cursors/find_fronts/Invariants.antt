-- The next cells so far are found.
use Rattle.std.proofs.Common.{◌≡◌, length, None}
use Rattle.rcs_shards.proofs.FrontLemmas.{Fronts}
use Rattle.rcs_shards.proofs.cursors.find_fronts.Given as goal

abbrev pub invariant-loop-place : goal.invariant-loop-place
invariant-loop-place l =
    Fronts l.shards l.busy l.slot l.place-index l.cursors.prefixes.items l.cursors.routes.items
    × (length l.cursors.passed.items ≡ length l.shards)
    × (l.cursors.last ≡ None)
