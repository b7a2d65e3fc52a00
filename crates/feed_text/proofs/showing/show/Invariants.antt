use Rattle.std.proofs.Common.{◌≤◌}
use Rattle.outside.specs.Told.{NeverFalls, in_front}
use Rattle.feed_text.proofs.RunLemmas.{HasShown}
use Rattle.feed_text.proofs.showing.show.Given as goal

abbrev pub invariant-loop : goal.invariant-loop
invariant-loop g l = record {
  shown : HasShown l.counter (g.S.Source.left l.initial.source) (in_front l.shower.window.octets (g.S.Source.left l.source)) (g.K.Sink.taken l.initial.sink) (g.K.Sink.taken l.sink);
  size : 65545 ≤ l.shower.window.size;
  reads : NeverFalls (g.S.Source.faults l.initial.source) (g.S.Source.faults l.source);
  writes : NeverFalls (g.K.Sink.faults l.initial.sink) (g.K.Sink.faults l.sink);
}
