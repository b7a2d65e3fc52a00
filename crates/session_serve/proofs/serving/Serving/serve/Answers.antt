-- Each turn takes the account on, and the last one ends it.
use Rattle.shard_mail.proofs.Putting.{same-then}
use Rattle.session_serve.proofs.serving.Serving.serve.Goals as goal

pub loop-init : goal.loop-init
loop-init g c = record {
  same = c.take_seat.ensures.same;
  goes = λ session seat_then wire_then slot runs claims. c.in_default.ensures.goes c.args.stop.now session seat_then wire_then slot runs claims;
}

pub loop-preserved : goal.loop-preserved
loop-preserved g c = record {
  same = same-then _ _ _ c.loop.invariant.same c.turn.ensures.same;
  goes = λ session seat_then wire_then slot runs claims.
      let b = c.loop.invariant.goes session seat_then wire_then slot runs claims in
      c.in_default-turn.ensures.goes session seat_then wire_then b.0 b.1 b.2;
}

pub returns-in-Err-clause-goes : goal.returns-in-Err-clause-goes
returns-in-Err-clause-goes g c session seat_then wire_then slot runs claims = c.in-Err.ensures.goes c.args.stop.now session seat_then wire_then slot runs claims

pub returns-in-Err-turn-clause-goes : goal.returns-in-Err-turn-clause-goes
returns-in-Err-turn-clause-goes g c session seat_then wire_then slot runs claims =
    let b = c.loop.invariant.goes session seat_then wire_then slot runs claims in
    c.in-Err-turn.ensures.goes session seat_then wire_then b.0 b.1 b.2
