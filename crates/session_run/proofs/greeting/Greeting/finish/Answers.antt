-- What waits is written as far as the link takes it.
use Rattle.std.proofs.Common.{refl}
use Rattle.outbox.specs.Wires.{wire_by}
use Rattle.session_run.proofs.GreetEnds.{unopened}
use Rattle.session_run.proofs.greeting.Greeting.finish.Goals as goal

pub returns : goal.returns
returns g c given exchange parts =
    let wire = wire_by g.L.Link.given g.L.Link.taken g.L.Link.closed g.L.Link.faults g.L.Link.ends g.L.Link.empties in
    (_, c.write_last.new.self, unopened given exchange _ _ c.write_last.new.self (wire c.write_last.new.link) parts c.write_last.ensures.written c.write_last.ensures.done refl refl refl refl)
