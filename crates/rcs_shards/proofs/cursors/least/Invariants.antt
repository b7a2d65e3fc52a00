-- The least of the prefixes so far.
use Rattle.rcs_shards.proofs.FrontLemmas.{LeastSoFar}
use Rattle.rcs_shards.proofs.cursors.least.Given as goal

abbrev pub invariant-loop-place : goal.invariant-loop-place
invariant-loop-place l = LeastSoFar l.busy l.prefixes l.place-index l.found
