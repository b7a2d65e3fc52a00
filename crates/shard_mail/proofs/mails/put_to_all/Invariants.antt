-- The message was put to each shard so far.
use Rattle.outbox.specs.Wires.{wire_by}
use Rattle.outbox.specs.Outs.{WritesSome}
use Rattle.shard_mail.specs.Puts.{Puts, standing}
use Rattle.shard_mail.proofs.Putting.{below}
use Rattle.shard_mail.proofs.mails.put_to_all.Given as goal

abbrev pub invariant-loop-shard : goal.invariant-loop-shard
invariant-loop-shard g l = record {
  put : Puts (below l.shard (standing l.up l.initial.seat.slot l.initial.seat.generation)) l.initial.seat l.seat;
  written : WritesSome l.initial.out l.out
      (wire_by g.L.Link.given g.L.Link.taken g.L.Link.closed g.L.Link.faults g.L.Link.ends g.L.Link.empties l.initial.link)
      (wire_by g.L.Link.given g.L.Link.taken g.L.Link.closed g.L.Link.faults g.L.Link.ends g.L.Link.empties l.link);
}
