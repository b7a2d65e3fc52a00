use Rattle.outbox.proofs.Writing.{writes-none, wrote-nothing, some-then}
use Rattle.outbox.proofs.waiting.Outbox.write_to.Goals as goal

pub loop-init : goal.loop-init
loop-init g c = writes-none _ _ _ (wrote-nothing _)

pub loop-preserved : goal.loop-preserved
loop-preserved g c = some-then _ _ _ _ _ _ c.loop.invariant c.write_once.ensures.written

pub returns-then-not-write_once-clause-written : goal.returns-then-not-write_once-clause-written
returns-then-not-write_once-clause-written g c = some-then _ _ _ _ _ _ c.loop.invariant c.write_once.ensures.written
