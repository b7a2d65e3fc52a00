-- What waits is written, and each turn takes the exchange on, until the seat is claimed or one ends it.
use Rattle.std.proofs.Common.{◌∙◌, sym}
use Rattle.outbox.specs.Wires.{wire_by}
use Rattle.session_run.proofs.GreetLemmas.{greets-writes, parts-failed, parts-stopped}
use Rattle.session_run.proofs.greeting.Greeting.run.Goals as goal

pub returns-then-has_failed : goal.returns-then-has_failed
returns-then-has_failed g c wire_then exchange greets =
    let wire = wire_by g.L.Link.given g.L.Link.taken g.L.Link.closed g.L.Link.faults g.L.Link.ends g.L.Link.empties in
    let b = c.loop.invariant wire_then exchange greets in
    let w = c.write_to.ensures.written in
    let r = greets-writes _ b.0 _ w.0 w.1 c.write_to.new.self (wire c.write_to.new.link) w.2 b.1 in
    (_, parts-failed _ _ _ r (sym c.has_failed.ensures ∙ c.if-has_failed.true))

pub returns-then-is_empty : goal.returns-then-is_empty
returns-then-is_empty g c wire_then exchange greets =
    let wire = wire_by g.L.Link.given g.L.Link.taken g.L.Link.closed g.L.Link.faults g.L.Link.ends g.L.Link.empties in
    let b = c.loop.invariant wire_then exchange greets in
    let w = c.write_to.ensures.written in
    let r = greets-writes _ b.0 _ w.0 w.1 c.write_to.new.self (wire c.write_to.new.link) w.2 b.1 in
    (_, r, c.is_empty.ensures.0 c.if-is_empty.true, c.in-Some-slot.is)

pub returns-then-is_set : goal.returns-then-is_set
returns-then-is_set g c wire_then exchange greets =
    let wire = wire_by g.L.Link.given g.L.Link.taken g.L.Link.closed g.L.Link.faults g.L.Link.ends g.L.Link.empties in
    let b = c.loop.invariant wire_then exchange greets in
    let w = c.write_to.ensures.written in
    let r = greets-writes _ b.0 _ w.0 w.1 c.write_to.new.self (wire c.write_to.new.link) w.2 b.1 in
    (_, parts-stopped _ _ _ r (c.is_set.ensures c.if-is_set.true))

pub returns-in-Err : goal.returns-in-Err
returns-in-Err g c wire_then exchange greets =
    let wire = wire_by g.L.Link.given g.L.Link.taken g.L.Link.closed g.L.Link.faults g.L.Link.ends g.L.Link.empties in
    let b = c.loop.invariant wire_then exchange greets in
    let w = c.write_to.ensures.written in
    let r = greets-writes _ b.0 _ w.0 w.1 c.write_to.new.self (wire c.write_to.new.link) w.2 b.1 in
    c.in-Err.ensures c.args.stop.now wire_then _ r

pub loop-preserved : goal.loop-preserved
loop-preserved g c wire_then exchange greets =
    let wire = wire_by g.L.Link.given g.L.Link.taken g.L.Link.closed g.L.Link.faults g.L.Link.ends g.L.Link.empties in
    let b = c.loop.invariant wire_then exchange greets in
    let w = c.write_to.ensures.written in
    let r = greets-writes _ b.0 _ w.0 w.1 c.write_to.new.self (wire c.write_to.new.link) w.2 b.1 in
    c.in_default-turn.ensures c.args.stop.now wire_then _ r
