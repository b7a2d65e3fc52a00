use Rattle.std.proofs.Common.{length, ap, arith}
use Rattle.rcs_shard.proofs.ClassLemmas.{alike_all}
use Rattle.rcs_shard.proofs.classes.reach_alike.Goals as goal

pub returns : goal.returns
returns c = λ _.
    alike_all c.args.view.now c.args.a c.args.b c.loop-to.to (omega (arith, ap length c.members-to-end.ensures.members, c.loop-to-test.false)) c.loop-to.invariant
