use Rattle.outbox.proofs.Writing.{some-then, some-risen, done-since}
use Rattle.outbox.proofs.waiting.Outbox.write_last.Goals as goal

pub loop-preserved : goal.loop-preserved
loop-preserved g c = record {
  written = some-then _ _ _ _ _ _ c.loop.invariant.written c.rest_and_write.ensures.written;
  done = done-since (some-risen _ _ _ _ c.loop.invariant.written) c.rest_and_write.ensures.done;
}
