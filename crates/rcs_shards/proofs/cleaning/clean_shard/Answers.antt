use Rattle.std.proofs.Common.{arith}
use Rattle.rcs_shards.proofs.CleanLemmas.{cleans-turn, cleans-all}
use Rattle.rcs_shards.proofs.cleaning.clean_shard.Goals as goal

pub loop-slot-preserved : goal.loop-slot-preserved
loop-slot-preserved c = cleans-turn c.loop-slot.slot c.args.shard.now c.loop-slot.shard c.clean.new.self c.loop-slot.invariant c.clean.ensures

pub returns : goal.returns
returns c = cleans-all c.loop-slot.slot c.args.shard.now c.loop-slot.shard c.loop-slot.invariant (λ slot p dirty. let low = c.requires.seated slot p dirty in omega (arith, low, c.len-slot-end.ensures.len, c.loop-slot-test.false))
