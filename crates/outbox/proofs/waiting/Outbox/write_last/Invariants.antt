-- What waited is written in part, as far as the link took it.
use Rattle.outbox.specs.Wires.{wire_by}
use Rattle.outbox.specs.Outs.{WritesSome, IsDone}
use Rattle.outbox.proofs.waiting.Outbox.write_last.Given as goal

abbrev pub invariant-loop : goal.invariant-loop
invariant-loop g l = record {
  written : WritesSome l.fn.self l.self
      (wire_by g.L.Link.given g.L.Link.taken g.L.Link.closed g.L.Link.faults g.L.Link.ends g.L.Link.empties l.fn.link)
      (wire_by g.L.Link.given g.L.Link.taken g.L.Link.closed g.L.Link.faults g.L.Link.ends g.L.Link.empties l.link);
  done : IsDone l.self
      (wire_by g.L.Link.given g.L.Link.taken g.L.Link.closed g.L.Link.faults g.L.Link.ends g.L.Link.empties l.fn.link)
      (wire_by g.L.Link.given g.L.Link.taken g.L.Link.closed g.L.Link.faults g.L.Link.ends g.L.Link.empties l.link);
}
