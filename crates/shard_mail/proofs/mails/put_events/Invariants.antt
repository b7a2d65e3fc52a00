-- The events so far were put.
use Rattle.std.proofs.Common.{◌≡◌, map}
use Rattle.session_core.specs.Shown.{event_of}
use Rattle.outbox.specs.Wires.{wire_by}
use Rattle.outbox.specs.Outs.{WritesSome}
use Rattle.shard_mail.specs.Puts.{Puts, mails_of, reached_up}
use Rattle.shard_mail.proofs.mails.put_events.Given as goal

abbrev pub invariant-loop-event : goal.invariant-loop-event
invariant-loop-event g l = record {
  put : Puts (mails_of l.initial.seat (map event_of l.yielded)) l.initial.seat l.seat;
  up : l.up ≡ reached_up (map event_of l.yielded);
  written : WritesSome l.initial.out l.out
      (wire_by g.L.Link.given g.L.Link.taken g.L.Link.closed g.L.Link.faults g.L.Link.ends g.L.Link.empties l.initial.link)
      (wire_by g.L.Link.given g.L.Link.taken g.L.Link.closed g.L.Link.faults g.L.Link.ends g.L.Link.empties l.link);
}
