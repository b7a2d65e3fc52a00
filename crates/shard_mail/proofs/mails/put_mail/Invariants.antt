-- The message waits still, and nothing was put.
use Rattle.std.proofs.Common.{◌≡◌}
use Rattle.outbox.specs.Wires.{wire_by}
use Rattle.outbox.specs.Outs.{WritesSome}
use Rattle.shard_mail.specs.Puts.{Puts}
use Rattle.shard_mail.proofs.Putting.{none}
use Rattle.shard_mail.proofs.mails.put_mail.Given as goal

abbrev pub invariant-loop : goal.invariant-loop
invariant-loop g l = record {
  waits : l.waiting ≡ l.initial.waiting;
  put : Puts none l.initial.seat l.seat;
  written : WritesSome l.initial.out l.out
      (wire_by g.L.Link.given g.L.Link.taken g.L.Link.closed g.L.Link.faults g.L.Link.ends g.L.Link.empties l.initial.link)
      (wire_by g.L.Link.given g.L.Link.taken g.L.Link.closed g.L.Link.faults g.L.Link.ends g.L.Link.empties l.link);
}
