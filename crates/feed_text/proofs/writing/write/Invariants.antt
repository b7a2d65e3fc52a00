use Rattle.std.proofs.Common.{◌<◌, ◌^◌}
use Rattle.outside.specs.Told.{NeverFalls, in_front}
use Rattle.feed_text.proofs.RunLemmas.{HasWritten}
use Rattle.feed_text.proofs.writing.write.Given as goal

abbrev pub invariant-loop-before : goal.invariant-loop-before
invariant-loop-before g l = record {
  written : HasWritten l.before (g.S.Source.left l.initial.source) (in_front l.writer.window.octets (g.S.Source.left l.source)) l.writer.encoder (g.K.Sink.taken l.initial.sink) (g.K.Sink.taken l.sink);
  size : 2 ^ 20 < l.writer.window.size;
  reads : NeverFalls (g.S.Source.faults l.initial.source) (g.S.Source.faults l.source);
  writes : NeverFalls (g.K.Sink.faults l.initial.sink) (g.K.Sink.faults l.sink);
}
