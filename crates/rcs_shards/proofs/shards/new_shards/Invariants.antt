-- The shards so far are new.
use Rattle.rcs_shards.specs.News.{AreNew}
use Rattle.rcs_shards.proofs.shards.new_shards.Given as goal

abbrev pub invariant-loop-number : goal.invariant-loop-number
invariant-loop-number l = AreNew l.roster l.view.value.edges l.number l.shards.items
