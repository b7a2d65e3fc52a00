use Rattle.std.proofs.Common.{◌+◌, Bool, Ok, arith, subst}
use Rattle.outside.specs.Told.{in_front}
use Rattle.feed_text.specs.Lines.{TakesLine}
use Rattle.feed_text.proofs.RunLemmas.{one_more_written, written_to_end}
use Rattle.feed_text.proofs.writing.write.Goals as goal

pub loop-before-preserved : goal.loop-before-preserved
loop-before-preserved g c =
    let before = c.loop-before in
    let after = c.turn.new in
    let ensured = c.in-Ok-true.ensures in
    record {
      written = one_more_written before.before (g.S.Source.left c.args.source.now)
          (in_front before.writer.window.octets (g.S.Source.left before.source)) (in_front after.self.window.octets (g.S.Source.left after.source))
          before.writer.encoder after.self.encoder (g.K.Sink.taken c.args.sink.now) (g.K.Sink.taken before.sink) (g.K.Sink.taken after.sink)
          before.invariant.written
          (subst (λ (more : Bool). TakesLine (before.before + 1) before.writer.encoder after.self.encoder (g.K.Sink.taken before.sink) (g.K.Sink.taken after.sink)
          (in_front before.writer.window.octets (g.S.Source.left before.source)) (in_front after.self.window.octets (g.S.Source.left after.source)) (Ok more)) c.in-Ok-true.field-0-test c.in-Ok-true.ensures.takes);
      size = omega (arith, ensured.size, before.invariant.size);
      reads = omega (arith, ensured.reads, before.invariant.reads);
      writes = omega (arith, ensured.writes, before.invariant.writes);
    }

pub returns-in-Ok-false-clause-text : goal.returns-in-Ok-false-clause-text
returns-in-Ok-false-clause-text g c =
    let before = c.loop-before in
    let after = c.turn.new in
    written_to_end before.before (g.S.Source.left c.args.source.now) (in_front before.writer.window.octets (g.S.Source.left before.source))
    before.writer.encoder (g.K.Sink.taken c.args.sink.now) (g.K.Sink.taken before.sink) (g.K.Sink.taken after.sink) before.invariant.written
    (subst (λ (more : Bool). TakesLine (before.before + 1) before.writer.encoder after.self.encoder (g.K.Sink.taken before.sink) (g.K.Sink.taken after.sink)
    (in_front before.writer.window.octets (g.S.Source.left before.source)) (in_front after.self.window.octets (g.S.Source.left after.source)) (Ok more)) c.in-Ok-false.field-0-test c.in-Ok-false.ensures.takes)
