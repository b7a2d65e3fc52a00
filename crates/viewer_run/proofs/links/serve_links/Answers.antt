-- What a stream or the time alone brings is shown after what was shown before.
use Rattle.std.proofs.Common.{refl, sym, ◌∙◌, false, true}
use Rattle.std.specs.Prelude.{is_err}
use Rattle.viewer_run.specs.Viewing.{ran_out}
use Rattle.viewer_run.proofs.ViewLemmas.{still, shown_first, shown_as, shown_on}
use Rattle.viewer_run.proofs.links.serve_links.Goals as goal

pub loop-init : goal.loop-init
loop-init g c = (shown_first false c.args.igp.now c.args.igp.now c.args.shards.now refl, still c.args.igp.now)

pub returns-then-ran_out-clause-shown : goal.returns-then-ran_out-clause-shown
returns-then-ran_out-clause-shown g c =
    shown_as (ran_out c.serve_stream-end.result.why) true c.args.igp.now c.loop.igp c.serve_stream-end.new.igp c.args.shards.now c.loop.shards c.serve_stream-end.new.shards c.loop.invariant
    (sym c.ran_out.ensures ∙ c.if-ran_out.true) c.serve_stream-end.ensures.shown

pub loop-preserved-in-Some-pop : goal.loop-preserved-in-Some-pop
loop-preserved-in-Some-pop g c =
    shown_on (ran_out c.serve_stream-end.result.why) c.args.igp.now c.loop.igp c.serve_stream-end.new.igp c.args.shards.now c.loop.shards c.serve_stream-end.new.shards c.loop.invariant
    (sym c.ran_out.ensures ∙ c.if-ran_out.false) c.serve_stream-end.ensures.shown c.serve_stream-end.ensures.roster

pub returns-then-is_err-clause-shown : goal.returns-then-is_err-clause-shown
returns-then-is_err-clause-shown g c =
    shown_as (is_err c.take_piece.result) true c.args.igp.now c.loop.igp c.take_piece.new.igp c.args.shards.now c.loop.shards c.take_piece.new.shards c.loop.invariant
    (sym c.is_err.ensures.value ∙ c.if-is_err.true) c.take_piece.ensures.shown

pub loop-preserved : goal.loop-preserved
loop-preserved g c =
    shown_on (is_err c.take_piece.result) c.args.igp.now c.loop.igp c.take_piece.new.igp c.args.shards.now c.loop.shards c.take_piece.new.shards c.loop.invariant
    (sym c.is_err.ensures.value ∙ c.if-is_err.false) c.take_piece.ensures.shown c.take_piece.ensures.roster
