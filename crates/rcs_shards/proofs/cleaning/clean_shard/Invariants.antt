-- The cells of the slots so far are clean, and nothing else changed but cells that are clean now.
use Rattle.rcs_shards.proofs.CleanLemmas.{Cleans}
use Rattle.rcs_shards.proofs.cleaning.clean_shard.Given as goal

abbrev pub invariant-loop-slot : goal.invariant-loop-slot
invariant-loop-slot l = Cleans l.slot l.initial.shard l.shard
