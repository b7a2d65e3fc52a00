-- The exchange begins with the OPEN, and comes to its result.
use Rattle.std.proofs.Common.{sym, subst}
use Rattle.outbox.specs.Wires.{wire_by}
use Rattle.outbox.specs.Outs.{empty}
use Rattle.session_serve.specs.declared.ends.SessionEnd.{SessionEnd}
use Rattle.session_run.specs.Greeted.{IsUnopened}
use Rattle.session_run.specs.Greeting.{given_at, begun_at}
use Rattle.session_run.proofs.GreetEnds.{no-memory, unopened_at, opened}
use Rattle.session_run.proofs.greeting.greet.Goals as goal

pub returns-in-Err : goal.returns-in-Err
returns-in-Err g c =
    let wire = wire_by g.L.Link.given g.L.Link.taken g.L.Link.closed g.L.Link.faults g.L.Link.ends g.L.Link.empties in
    let roster = c.args.roster.now in
    let can_give = g.C.Clock.can_give c.args.clock.now in
    let first = wire c.args.link.now in (
      unopened_at roster c.now.result,
      empty,
      subst (λ (end : SessionEnd). IsUnopened roster can_give c.args.stop.now first first end (unopened_at roster c.now.result) empty) (sym c.without_memory.ensures)
          (no-memory roster can_give c.args.stop.now first c.now.result c.now.ensures),
    )

pub returns-in-Ok-run : goal.returns-in-Ok-run
returns-in-Ok-run g c =
    let wire = wire_by g.L.Link.given g.L.Link.taken g.L.Link.closed g.L.Link.faults g.L.Link.ends g.L.Link.empties in
    let first = wire c.args.link.now in
    let begun = c.in-Ok.ensures (g.C.Clock.can_give c.args.clock.now) c.args.stop.now first c.now.ensures in
    let r = c.in-Ok-run.ensures first (begun_at c.now.result) begun in
    (r.0, _, opened _ r.0 _ c.in-Ok-run.slot r.1 r.2 r.3)

pub returns-in-Err-run : goal.returns-in-Err-run
returns-in-Err-run g c =
    let wire = wire_by g.L.Link.given g.L.Link.taken g.L.Link.closed g.L.Link.faults g.L.Link.ends g.L.Link.empties in
    let roster = c.args.roster.now in
    let can_give = g.C.Clock.can_give c.args.clock.now in
    let first = wire c.args.link.now in
    let begun = c.in-Ok.ensures can_give c.args.stop.now first c.now.ensures in
    let r = c.in-Err-run.ensures first (begun_at c.now.result) begun in
    c.finish.ensures (given_at roster can_give c.args.stop.now first) r.0 r.1
