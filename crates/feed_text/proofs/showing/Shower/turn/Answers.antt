use Rattle.std.proofs.Common.{◌∙◌, ℕ, List, ap}
use Rattle.outside.specs.Told.{behind}
use Rattle.feed_text.proofs.RunLemmas.{shows_front}
use Rattle.feed_text.proofs.showing.Shower.turn.Goals as goal

pub returns-in-Ok-write_all-clause-turns : goal.returns-in-Ok-write_all-clause-turns
returns-in-Ok-write_all-clause-turns g c =
    shows_front c.args.self.now.window c.next_piece.new.window c.drop_front.new.self
    (g.S.Source.left c.args.source.now) (g.S.Source.left c.next_piece.new.source) (g.K.Sink.taken c.args.sink.now) (g.K.Sink.taken c.write_all.new.sink)
    c.in-Ok.count c.print.new.printer.text.items
    c.in-Ok.ensures.same c.drop_front.ensures c.in-Ok.count-test.1 c.in-Ok.ensures.within.0
    (c.in-Ok-write_all.ensures.all ∙ ap (λ (text : List ℕ). behind (g.K.Sink.taken c.args.sink.now) text) c.deref.ensures.value)
    c.in-Ok-print.ensures
