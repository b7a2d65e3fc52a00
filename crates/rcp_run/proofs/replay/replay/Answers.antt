use Rattle.std.proofs.Common.{arith}
use Rattle.feed_meaning.specs.Platform.{fresh}
use Rattle.feed_run.proofs.FirstLemmas.{answers-first}
use Rattle.rcp_run.proofs.CommandLemmas.{stop-cause}
use Rattle.rcp_run.proofs.replay.replay.Goals as goal

pub returns-in-Err-clause-answer : goal.returns-in-Err-clause-answer
returns-in-Err-clause-answer g c = λ octets told.
    answers-first c.new.result c.in-Err.status octets (g.S.Source.left c.begin.new.source) (g.K.Sink.taken c.args.sink.now) (g.K.Sink.taken c.args.sink.now) c.new.ensures
    (c.in-Err.ensures.ends octets (g.K.Sink.taken c.args.sink.now) told)

pub returns-in-Err-clause-cause : goal.returns-in-Err-clause-cause
returns-in-Err-clause-cause g c = stop-cause c.in-Err.status _ _ _ _ c.in-Err.ensures.cause

pub loop-status-init : goal.loop-status-init
loop-status-init g c =
    let begun = c.in-Ok.ensures.opened in
    record {
      going = c.in-Ok.ensures.going;
      source_never_falls = c.in-Ok.ensures.never_falls;
      sink_never_falls = omega arith;
      defined = fresh begun.roster;
      seen = begun.seen;
      told = λ octets told. let b = begun.begins octets told in (
        b.rest,
        b.left,
        λ status left now h. answers-first c.new.result status octets left (g.K.Sink.taken c.args.sink.now) now c.new.ensures (b.answers status left (g.K.Sink.taken c.args.sink.now) now h),
      );
    }

pub returns-in-Some-clause-answer : goal.returns-in-Some-clause-answer
returns-in-Some-clause-answer g c = λ octets told.
    let before = c.loop-status.invariant.told octets told in
    before.2 c.in-Some.status _ _ (c.in-Some.ensures.ends c.loop-status.invariant.defined before.0 c.loop-status.invariant.seen before.1)

pub loop-status-smaller : goal.loop-status-smaller
loop-status-smaller g c = omega (arith, c.in_default.ensures.further, c.in_default.ensures.going.counts.most)

pub loop-status-preserved : goal.loop-status-preserved
loop-status-preserved g c =
    let inv = c.loop-status.invariant in
    let on = c.in_default.ensures.goes_on inv.defined inv.seen in
    record {
      going = c.in_default.ensures.going;
      source_never_falls = omega (arith, inv.source_never_falls, c.in_default.ensures.source_never_falls);
      sink_never_falls = omega (arith, inv.sink_never_falls, c.in_default.ensures.sink_never_falls);
      defined = on.0;
      seen = on.1;
      told = λ octets told.
          let before = inv.told octets told in
          let next = on.2 before.0 before.1 in
          (next.rest, next.left, λ status left now h. before.2 status left now (next.answers status left now h));
    }
