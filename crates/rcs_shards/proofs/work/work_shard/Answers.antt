use Rattle.std.proofs.Common.{◌≤◌, ◌∙◌, arith}
use Rattle.rcs_shards.proofs.WorkLemmas.{work-turn, work-last, work-over}
use Rattle.rcs_shards.proofs.work.work_shard.Goals as goal

pub loop-preserved : goal.loop-preserved
loop-preserved c = work-turn c.args.most c.loop.counter c.loop.shard c.work.new.self c.work.result c.is_none.result c.is_none.ensures c.work.ensures.least c.work.ensures.after c.if-is_none.false c.loop-test.true ∙ c.loop.invariant

pub returns-after-loop : goal.returns-after-loop
returns-after-loop c = let over : c.args.most ≤ c.loop.counter = omega (arith, c.loop-test.false) in work-over c.args.most c.loop.counter c.loop.shard over ∙ c.loop.invariant

pub returns-then-is_none : goal.returns-then-is_none
returns-then-is_none c = work-last c.args.most c.loop.counter c.loop.shard c.work.new.self c.work.result c.is_none.result c.is_none.ensures c.work.ensures.least c.work.ensures.after c.if-is_none.true ∙ c.loop.invariant
