-- What waited is written in part, since the loop began.
use Rattle.outbox.specs.Wires.{wire_by}
use Rattle.outbox.specs.Outs.{WritesSome}
use Rattle.outbox.proofs.waiting.Outbox.write_to.Given as goal

abbrev pub invariant-loop : goal.invariant-loop
invariant-loop g l =
    WritesSome l.initial.self l.self
    (wire_by g.L.Link.given g.L.Link.taken g.L.Link.closed g.L.Link.faults g.L.Link.ends g.L.Link.empties l.initial.link)
    (wire_by g.L.Link.given g.L.Link.taken g.L.Link.closed g.L.Link.faults g.L.Link.ends g.L.Link.empties l.link)
