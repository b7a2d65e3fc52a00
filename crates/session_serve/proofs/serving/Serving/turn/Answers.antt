-- Offers are taken, what waits is written, what came is handled, and then the clock is looked at: each step takes the account on.
use Rattle.std.proofs.Common.{◌∙◌, refl, sym}
use Rattle.outbox.specs.Wires.{wire_by}
use Rattle.session_serve.proofs.DoneLemmas.{gone_on, runs-writes}
use Rattle.session_serve.proofs.GoesLemmas.{begun-same, ends-failed, ends-stopped}
use Rattle.session_serve.proofs.serving.Serving.turn.Goals as goal

pub returns-in-Err-clause-goes : goal.returns-in-Err-clause-goes
returns-in-Err-clause-goes g c session seat_then wire_then deeds runs begun =
    let wire = wire_by g.L.Link.given g.L.Link.taken g.L.Link.closed g.L.Link.faults g.L.Link.ends g.L.Link.empties in
    c.in-Err.ensures.goes _ deeds (wire c.args.link.now) runs begun

pub returns-then-has_failed-clause-goes : goal.returns-then-has_failed-clause-goes
returns-then-has_failed-clause-goes g c session seat_then wire_then deeds runs begun =
    let wire = wire_by g.L.Link.given g.L.Link.taken g.L.Link.closed g.L.Link.faults g.L.Link.ends g.L.Link.empties in
    let a = c.in_default.ensures.goes _ deeds (wire c.args.link.now) runs begun in
    let w = c.write_to.ensures.written in
    let r = runs-writes _ a.0 _ w.0 w.1 c.write_to.new.self (wire c.write_to.new.link) w.2 a.1 in
    (_, ends-failed _ (gone_on w.0 a.0) _ r (begun-same a.0 (gone_on w.0 a.0) refl refl a.2) (sym c.has_failed.ensures ∙ c.if-has_failed.true))

pub returns-then-is_set-clause-goes : goal.returns-then-is_set-clause-goes
returns-then-is_set-clause-goes g c session seat_then wire_then deeds runs begun =
    let wire = wire_by g.L.Link.given g.L.Link.taken g.L.Link.closed g.L.Link.faults g.L.Link.ends g.L.Link.empties in
    let a = c.in_default.ensures.goes _ deeds (wire c.args.link.now) runs begun in
    let w = c.write_to.ensures.written in
    let r = runs-writes _ a.0 _ w.0 w.1 c.write_to.new.self (wire c.write_to.new.link) w.2 a.1 in
    (_, ends-stopped _ (gone_on w.0 a.0) _ r (begun-same a.0 (gone_on w.0 a.0) refl refl a.2) a.3 (c.is_set.ensures c.if-is_set.true))

pub returns-in-Err-read-clause-goes : goal.returns-in-Err-read-clause-goes
returns-in-Err-read-clause-goes g c session seat_then wire_then deeds runs begun =
    let wire = wire_by g.L.Link.given g.L.Link.taken g.L.Link.closed g.L.Link.faults g.L.Link.ends g.L.Link.empties in
    let a = c.in_default.ensures.goes _ deeds (wire c.args.link.now) runs begun in
    let w = c.write_to.ensures.written in
    let r = runs-writes _ a.0 _ w.0 w.1 c.write_to.new.self (wire c.write_to.new.link) w.2 a.1 in
    c.in-Err-read.ensures.goes c.args.stop.now session seat_then wire_then (gone_on w.0 a.0) r (begun-same a.0 (gone_on w.0 a.0) refl refl a.2) a.3

pub returns-clause-goes : goal.returns-clause-goes
returns-clause-goes g c session seat_then wire_then deeds runs begun =
    let wire = wire_by g.L.Link.given g.L.Link.taken g.L.Link.closed g.L.Link.faults g.L.Link.ends g.L.Link.empties in
    let a = c.in_default.ensures.goes _ deeds (wire c.args.link.now) runs begun in
    let w = c.write_to.ensures.written in
    let r = runs-writes _ a.0 _ w.0 w.1 c.write_to.new.self (wire c.write_to.new.link) w.2 a.1 in
    let b = c.in_default-read.ensures.goes c.args.stop.now session seat_then wire_then (gone_on w.0 a.0) r (begun-same a.0 (gone_on w.0 a.0) refl refl a.2) a.3 in
    c.tick.ensures.goes c.args.stop.now session seat_then wire_then b.0 b.1 b.2
