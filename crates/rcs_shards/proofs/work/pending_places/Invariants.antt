-- Each of the shards so far in which some prefix is pending is listed.
use Rattle.rcs_shards.specs.Dirty.{ArePending}
use Rattle.rcs_shards.proofs.work.pending_places.Given as goal

abbrev pub invariant-loop-place : goal.invariant-loop-place
invariant-loop-place l = ArePending l.shards l.places.items l.place
