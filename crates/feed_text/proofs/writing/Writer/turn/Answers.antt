use Rattle.std.proofs.Common.{◌∙◌, ℕ, List, Option, take, ap, sym, subst}
use Rattle.outside.specs.Told.{behind, in_front}
use Rattle.feed_words.specs.Texts.{line_gives}
use Rattle.feed_text.specs.Lines.{LineInFront}
use Rattle.feed_text.proofs.TurnLemmas.{takes_whole, takes_last, takes_none, faulty_whole, faulty_last}
use Rattle.feed_text.proofs.writing.Writer.turn.Goals as goal

pub returns-in-Err-encode-clause-takes : goal.returns-in-Err-encode-clause-takes
returns-in-Err-encode-clause-takes g c =
    let before = c.args.self.now in
    let held = c.line_in_front.new.window in
    let found = subst (λ (o : Option ℕ). LineInFront held.octets (g.S.Source.left c.line_in_front.new.source) o) c.in-Ok-Some.field-0-is c.in-Ok-Some.ensures.found in
    takes_none c.args.number before.encoder c.encode.new.encoder (g.K.Sink.taken c.args.sink.now)
    (in_front before.window.octets (g.S.Source.left c.args.source.now)) (in_front held.octets (g.S.Source.left c.line_in_front.new.source))
    c.in-Err-encode.fault (line_gives before.encoder (take c.in-Ok-Some.end held.octets)) (c.encode.new.encoder, c.encode.new.piece.items) c.in-Err-encode.ensures
    (λ fault why gives is. faulty_whole c.args.number before.window held (g.S.Source.left c.args.source.now) (g.S.Source.left c.line_in_front.new.source) before.encoder (g.K.Sink.taken c.args.sink.now) c.in-Ok-Some.end fault why c.in-Ok-Some.ensures.same found gives is)

pub returns-in-Err-encode-2-clause-takes : goal.returns-in-Err-encode-2-clause-takes
returns-in-Err-encode-2-clause-takes g c =
    let before = c.args.self.now in
    let held = c.line_in_front.new.window in
    let found = subst (λ (o : Option ℕ). LineInFront held.octets (g.S.Source.left c.line_in_front.new.source) o) c.in-Ok-None.field-0-is c.in-Ok-None.ensures.found in
    takes_none c.args.number before.encoder c.encode-in-Ok-None.new.encoder (g.K.Sink.taken c.args.sink.now)
    (in_front before.window.octets (g.S.Source.left c.args.source.now)) (in_front held.octets (g.S.Source.left c.line_in_front.new.source))
    c.in-Err-encode-2.fault (line_gives before.encoder (take c.len-end.result held.octets)) (c.encode-in-Ok-None.new.encoder, c.encode-in-Ok-None.new.piece.items) c.in-Err-encode-2.ensures
    (λ fault why gives is. faulty_last c.args.number before.window held (g.S.Source.left c.args.source.now) (g.S.Source.left c.line_in_front.new.source) before.encoder (g.K.Sink.taken c.args.sink.now) fault why c.in-Ok-None.ensures.same found
    (ap (λ (n : ℕ). line_gives before.encoder (take n held.octets)) (sym c.len-end.ensures.value) ∙ gives) is)

pub returns-in_ok-put-in-Ok-Some-clause-takes : goal.returns-in_ok-put-in-Ok-Some-clause-takes
returns-in_ok-put-in-Ok-Some-clause-takes g c =
    let before = c.args.self.now in
    let held = c.line_in_front.new.window in
    let found = subst (λ (o : Option ℕ). LineInFront held.octets (g.S.Source.left c.line_in_front.new.source) o) c.in-Ok-Some.field-0-is c.in-Ok-Some.ensures.found in
    takes_whole before.window held c.drop_front.new.self (g.S.Source.left c.args.source.now) (g.S.Source.left c.line_in_front.new.source) before.encoder c.encode.new.encoder (g.K.Sink.taken c.args.sink.now) (g.K.Sink.taken c.put.new.sink)
    c.in-Ok-Some.end c.encode.new.piece.items c.in-Ok-Some.ensures.same found c.drop_front.ensures c.in_default.ensures
    (c.in_ok-put-in-Ok-Some.ensures.ok ∙ ap (λ (piece : List ℕ). behind (g.K.Sink.taken c.args.sink.now) piece) c.deref.ensures.value)

pub returns-in_ok-put-in-Ok-None-clause-takes : goal.returns-in_ok-put-in-Ok-None-clause-takes
returns-in_ok-put-in-Ok-None-clause-takes g c =
    let before = c.args.self.now in
    let held = c.line_in_front.new.window in
    let found = subst (λ (o : Option ℕ). LineInFront held.octets (g.S.Source.left c.line_in_front.new.source) o) c.in-Ok-None.field-0-is c.in-Ok-None.ensures.found in
    takes_last before.window held (g.S.Source.left c.args.source.now) (g.S.Source.left c.line_in_front.new.source) before.encoder c.encode-in-Ok-None.new.encoder (g.K.Sink.taken c.args.sink.now) (g.K.Sink.taken c.put-in-Ok-None.new.sink)
    c.encode-in-Ok-None.new.piece.items c.finish.new.piece.items c.in-Ok-None.ensures.same found
    (ap (λ (n : ℕ). line_gives before.encoder (take n held.octets)) (sym c.len-end.ensures.value) ∙ c.in_default-encode.ensures)
    c.in_ok-finish-in-Ok-None.ensures.gives
    (c.in_ok-put-in-Ok-None.ensures.ok ∙ ap (λ (piece : List ℕ). behind (g.K.Sink.taken c.args.sink.now) piece) c.deref-in-Ok-None.ensures.value)
