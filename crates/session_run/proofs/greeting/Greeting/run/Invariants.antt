-- The greeting goes on, as far as the turns have come.
use Rattle.outbox.specs.Wires.{WireOf, wire_by}
use Rattle.session_run.specs.Greeted.{Exchange}
use Rattle.session_run.specs.Greeting.{given_at, now_of, Greets}
use Rattle.session_run.proofs.greeting.Greeting.run.Given as goal

abbrev pub invariant-loop : goal.invariant-loop
invariant-loop g l =
    (wire : WireOf) (exchange : Exchange)
    → Greets (given_at l.roster (g.C.Clock.can_give l.clock) l.stop wire) exchange
    (now_of l.fn.self (wire_by g.L.Link.given g.L.Link.taken g.L.Link.closed g.L.Link.faults g.L.Link.ends g.L.Link.empties l.fn.link))
    → (later : Exchange)
    × Greets (given_at l.roster (g.C.Clock.can_give l.clock) l.stop wire) later
    (now_of l.self (wire_by g.L.Link.given g.L.Link.taken g.L.Link.closed g.L.Link.faults g.L.Link.ends g.L.Link.empties l.link))
