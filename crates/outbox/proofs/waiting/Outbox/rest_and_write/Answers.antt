use Rattle.std.proofs.Common.{◌∙◌, sym, arith}
use Rattle.outside.specs.Told.{behind-nil}
use Rattle.outbox.specs.Wires.{HasRisen, wire_by}
use Rattle.outbox.proofs.Writing.{some-then, writes-none, done-since}
use Rattle.outbox.proofs.waiting.Outbox.rest_and_write.Goals as goal

pub returns-clause-written : goal.returns-clause-written
returns-clause-written g c =
    let w = c.wait.ensures in
    some-then _ _ _ _ _ _
    (writes-none c.args.self.now _ _ (record {
      taken = w.taken ∙ sym (behind-nil _);
      given = w.given;
      closed = w.closed;
      ends = w.ends;
      risen = record { faults = omega (arith, w.never_falls); ends = omega (arith, w.ends); empties = omega (arith, w.empties) };
    }))
    c.write_to.ensures.written

pub returns-clause-done : goal.returns-clause-done
returns-clause-done g c =
    let w = c.wait.ensures in
    let before = (wire_by g.L.Link.given g.L.Link.taken g.L.Link.closed g.L.Link.faults g.L.Link.ends g.L.Link.empties c.args.link.now) in
    let after = (wire_by g.L.Link.given g.L.Link.taken g.L.Link.closed g.L.Link.faults g.L.Link.ends g.L.Link.empties c.wait.new.self) in
    let risen : HasRisen before after = record { faults = omega (arith, w.never_falls); ends = omega (arith, w.ends); empties = omega (arith, w.empties) } in
    done-since risen c.write_to.ensures.done
