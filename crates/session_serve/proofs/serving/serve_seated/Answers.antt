-- The session begins with nothing done, and what it did by its end is what serving comes to.
use Rattle.std.proofs.Common.{false, Some, sym, ap, subst}
use Rattle.outbox.specs.Wires.{wire_by}
use Rattle.outbox.specs.Outs.{OutOf}
use Rattle.session_times.proofs.DueLemmas.{seated_due}
use Rattle.session_serve.specs.Deeds.{no_deeds}
use Rattle.session_serve.specs.Running.{At, start_at, Runs}
use Rattle.session_serve.proofs.DoneLemmas.{gone_on}
use Rattle.session_serve.proofs.GoesLemmas.{runs-open}
use Rattle.session_serve.proofs.ServedLemmas.{served}
use Rattle.session_serve.proofs.serving.serve_seated.Goals as goal

pub returns : goal.returns
returns g c =
    let wire = wire_by g.L.Link.given g.L.Link.taken g.L.Link.closed g.L.Link.faults g.L.Link.ends g.L.Link.empties in
    let roster = c.args.roster.now in
    let can_give = g.C.Clock.can_give c.args.clock.now in
    let session = c.args.session in
    let claim = c.requires.claim in
    let at_first : OutOf → At = λ (out : OutOf). record { held = session; out = out; seat = c.args.seat.now; wire = wire c.args.link.now; up = false; messages = 0 } in
    let begun = subst (λ (out : OutOf). Runs (start_at roster can_give c.args.stop.now session.state c.args.seat.now (wire c.args.link.now)) no_deeds (at_first out)) (sym c.new.ensures)
    (runs-open roster can_give c.args.stop.now session c.args.seat.now (wire c.args.link.now) claim.unspent) in
    let e = c.serve-why.ensures.goes session.state c.args.seat.now (wire c.args.link.now) c.args.seat.now.slot begun claim in
    let f = c.finish.ensures in (
      gone_on f.written.0 e.0,
      c.finish.new.self.out,
      served roster can_give c.args.stop.now session.state c.args.seat.now (wire c.args.link.now) e.0 _ _ c.finish.new.seat c.finish.new.self.out (wire c.finish.new.link)
          e.1 f.put f.written f.done (λ since slot terms claims. seated_due roster can_give e.0.inputs session.state since slot terms claims e.1.done.course)
          claim.since c.args.seat.now.slot claim.terms claim.claims (ap Some c.slot.ensures) c.generation.ensures f.messages c.updates.ensures c.updates.type_inv,
    )
