use Rattle.outbox.proofs.Writing.{some-then, some-risen, done-since}
use Rattle.session_serve.proofs.serving.Serving.finish.Goals as goal

pub returns-clause-written : goal.returns-clause-written
returns-clause-written g c = some-then _ _ _ _ _ _ c.report_down.ensures.written c.write_last.ensures.written

pub returns-clause-done : goal.returns-clause-done
returns-clause-done g c = done-since (some-risen _ _ _ _ c.report_down.ensures.written) c.write_last.ensures.done
