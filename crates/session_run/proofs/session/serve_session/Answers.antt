-- The link as it is before it is closed shows what the session came to.
use Rattle.std.proofs.Common.{inl, inr, refl, sym, subst}
use Rattle.outbox.specs.Wires.{wire_by}
use Rattle.session_run.specs.Sessions.{IsSession}
use Rattle.session_run.proofs.CloseLemmas.{closes}
use Rattle.session_run.proofs.session.serve_session.Goals as goal
use Rattle.session_run.proofs.session.serve_session.Goals.{in-Ok, in-Err}

pub returns : goal.returns
returns g c =
    let wire = wire_by g.L.Link.given g.L.Link.taken g.L.Link.closed g.L.Link.faults g.L.Link.ends g.L.Link.empties in
    let is_session = IsSession c.args.roster.now (g.C.Clock.can_give c.args.clock.now) c.args.stop.now g.B.SeatNames.shard_mailboxes g.B.SeatNames.offer_mailbox (wire c.args.link.now) in
    let e = c.close.ensures in
    let served = wire c.match-greet.link in (
      served,
      closes served (wire c.close.new.self) e.closed e.given e.taken e.faults e.ends e.empties,
      elim c.match-greet.branch [
        | in-Ok w ↦
            let o = w.in-Ok.ensures in
            let claimant = inr (record {
              exchange = o.0;
              waiting = o.1;
              middle = wire c.greet.new.link;
              session = w.in-Ok.session;
              slot = w.in-Ok.slot;
              opened = o.2;
              served = w.claim_and_serve-end.result;
              answered = w.claim_and_serve-end.ensures;
              counted = record { why = refl; slot = refl; generation = refl; messages = w.saturating_add.ensures; updates = refl };
            }) in
            subst (is_session served) (sym w.end-is) (subst (λ link. is_session (wire link) (record w.claim_and_serve-end.result { messages = w.saturating_add.result })) (sym w.link-is) claimant)
        | in-Err w ↦ subst (is_session served) (sym w.end-is) (subst (λ link. is_session (wire link) w.in-Err.end) (sym w.link-is) (inl w.in-Err.ensures))
      ],
    )
