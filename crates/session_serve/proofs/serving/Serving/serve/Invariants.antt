-- The session runs on, as far as the turns have come.
use Rattle.std.proofs.Common.{ℕ}
use Rattle.rcp_model.specs.Sessions.{SessionState}
use Rattle.outbox.specs.Wires.{WireOf, wire_by}
use Rattle.seats.specs.Seats.{SeatOf}
use Rattle.shard_mail.specs.Puts.{IsSameSeat}
use Rattle.session_serve.specs.Deeds.{Deeds, no_deeds}
use Rattle.session_serve.specs.Running.{start_at, Runs, HasBegun}
use Rattle.session_serve.specs.Served.{Claims, at_of}
use Rattle.session_serve.proofs.serving.Serving.serve.Given as goal

abbrev pub invariant-loop : goal.invariant-loop
invariant-loop g l = record {
  same : IsSameSeat l.fn.seat l.seat;
  goes : (session : SessionState) (seat_then : SeatOf) (wire_then : WireOf) (slot : ℕ)
      → Runs (start_at l.roster (g.C.Clock.can_give l.clock) l.stop session seat_then wire_then) no_deeds
      (at_of l.fn.self l.fn.seat (wire_by g.L.Link.given g.L.Link.taken g.L.Link.closed g.L.Link.faults g.L.Link.ends g.L.Link.empties l.fn.link))
      → Claims slot l.fn.self.session
      → (deeds : Deeds)
      × Runs (start_at l.roster (g.C.Clock.can_give l.clock) l.stop session seat_then wire_then) deeds
      (at_of l.self l.seat (wire_by g.L.Link.given g.L.Link.taken g.L.Link.closed g.L.Link.faults g.L.Link.ends g.L.Link.empties l.link))
      × HasBegun deeds;
}
