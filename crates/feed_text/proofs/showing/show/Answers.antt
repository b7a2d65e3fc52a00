use Rattle.std.proofs.Common.{Bool, Ok, ap, subst, arith}
use Rattle.feed_text.specs.Windows.{Held}
use Rattle.feed_text.specs.Turns.{Turns}
use Rattle.feed_text.proofs.RunLemmas.{shown_at_start, one_more_shown}
use Rattle.feed_text.proofs.showing.show.Goals as goal

pub loop-init : goal.loop-init
loop-init g c = record {
  shown = shown_at_start c.in-Ok.window (g.S.Source.left c.args.source.now) (g.K.Sink.taken c.args.sink.now) (ap (λ (w : Held). w.octets) c.in-Ok.ensures);
  size = omega (arith, ap (λ (w : Held). w.size) c.in-Ok.ensures);
  reads = omega arith;
  writes = omega arith;
}

pub loop-preserved : goal.loop-preserved
loop-preserved g c =
    let before = c.loop in
    let after = c.turn.new in
    let ensured = c.in-Ok-true.ensures in
    record {
      shown = one_more_shown before.counter (g.S.Source.left c.args.source.now) (g.K.Sink.taken c.args.sink.now) before.shower.window after.self.window
          (g.S.Source.left before.source) (g.S.Source.left after.source) (g.K.Sink.taken before.sink) (g.K.Sink.taken after.sink)
          c.texts_join.ensures before.invariant.shown
          (subst (λ (more : Bool). Turns before.shower.window (g.S.Source.left before.source) (g.K.Sink.taken before.sink) after.self.window (g.S.Source.left after.source) (g.K.Sink.taken after.sink) (Ok more)) c.in-Ok-true.field-0-test ensured.turns);
      size = omega (arith, ensured.size, before.invariant.size);
      reads = omega (arith, ensured.reads, before.invariant.reads);
      writes = omega (arith, ensured.writes, before.invariant.writes);
    }
