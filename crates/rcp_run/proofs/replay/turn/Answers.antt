use Rattle.std.proofs.Common.{List, ap, ◌∙◌, subst}
use Rattle.std.specs.List.{flat_map, AllByRecursion}
use Rattle.outside.specs.Told.{behind}
use Rattle.rcp_base.specs.Feed.{FeedState, OutRecord, out_octets}
use Rattle.feed_meaning.specs.Runs.{act}
use Rattle.feed_format.specs.Writing.{WritesLess}
use Rattle.feed_run.specs.Frames.{IsFramed}
use Rattle.feed_run.specs.Going.{AnswersFrom, Acts}
use Rattle.feed_run.proofs.StepLemmas.{goes_on, write-ends}
use Rattle.rcp_run.proofs.CommandLemmas.{stop-cause}
use Rattle.rcp_run.proofs.replay.turn.Goals as goal

pub returns-in-Ok-None-clause-ends : goal.returns-in-Ok-None-clause-ends
returns-in-Ok-None-clause-ends g c = λ platform octets seen told.
    let done = rw c.in-Ok-None.field-0-is at c.in-Ok-None.ensures.done in
    done platform octets (g.K.Sink.taken c.args.sink.now) seen told

pub returns-in-Ok-clause-goes_on : goal.returns-in-Ok-clause-goes_on
returns-in-Ok-clause-goes_on g c = λ platform seen.
    let a : Acts c.args.run.now c.next.new.self c.in-Ok-Some.outs.items (g.S.Source.left c.args.source.now) (g.S.Source.left c.next.new.source) = rw c.in-Ok-Some.field-0-is at c.in-Ok-Some.ensures.acts in
    let acted = a.acted platform seen in
    let before = g.K.Sink.taken c.args.sink.now in
    let between = g.K.Sink.taken c.write_outs.new.sink in
    let outs_are = c.deref.ensures.value ∙ acted.1 in (
      (act platform a.item).after,
      acted.0,
      λ octets told.
          let on = goes_on platform c.args.run.now.reader octets a.item _ _ told a.given a.form a.valid acted.2 a.further (subst (AllByRecursion IsFramed) outs_are c.in-Ok.ensures.framed)
          before between (c.in-Ok.ensures.ok ∙ ap (λ (outs : List OutRecord). behind before (flat_map out_octets outs)) outs_are) in
          record {
            rest = on.0;
            left = on.1;
            answers = λ status later final h. on.2 status later final (subst (λ (s : FeedState). AnswersFrom (act platform a.item).after s status on.0 later between final) a.noted h);
          },
    )

pub returns-in-Ok-Some-clause-ends : goal.returns-in-Ok-Some-clause-ends
returns-in-Ok-Some-clause-ends g c = λ platform octets seen told.
    let a : Acts c.args.run.now c.next.new.self c.in-Ok-Some.outs.items (g.S.Source.left c.args.source.now) (g.S.Source.left c.next.new.source) = rw c.in-Ok-Some.field-0-is at c.in-Ok-Some.ensures.acts in
    let acted = a.acted platform seen in
    let before = g.K.Sink.taken c.args.sink.now in
    let final = g.K.Sink.taken c.write_outs.new.sink in
    write-ends platform c.args.run.now.reader octets a.item _ _ told a.given a.form a.valid acted.2 a.further before final
    (subst (λ (outs : List OutRecord). WritesLess (flat_map out_octets outs) before final) (c.deref.ensures.value ∙ acted.1) c.in-Err-write_outs.ensures.less)

pub returns-clause-ends : goal.returns-clause-ends
returns-clause-ends g c = λ platform octets seen told. c.in-Err.ensures.ends platform octets (g.K.Sink.taken c.args.sink.now) seen told

pub returns-clause-cause : goal.returns-clause-cause
returns-clause-cause g c = stop-cause c.in-Err.status _ _ _ _ c.in-Err.ensures.cause
