use Rattle.std.proofs.Common.{◌≡◌, ◌≤◌, ◌∙◌, Bool, false, cond, take, sym, ap, append-nil, arith}
use Rattle.rcp_model.specs.Sessions.{Octets, answer}
use Rattle.session_core.specs.Held.{Held}
use Rattle.session_core.specs.Shown.{doing_of}
use Rattle.outside.specs.Told.{behind, raised}
use Rattle.outbox.specs.Wires.{WireOf, HasRisen, wire_by}
use Rattle.outbox.specs.Outs.{counted_on}
use Rattle.outbox.proofs.Writing.{raised-or-not}
use Rattle.session_serve.proofs.PieceLemmas.{course-more}
use Rattle.session_serve.proofs.GoesLemmas.{acts-goes, begun-more, ends-unheard, ends-closed, ends-fault, rests-goes}
use Rattle.session_serve.proofs.serving.Serving.read.Goals as goal

-- a read may raise the counts of faults and of ends
read-risen : (before after : WireOf) (ended : Bool) → before.faults ≤ after.faults → after.ends ≡ cond ended (raised before.ends) before.ends → after.empties ≡ before.empties → HasRisen before after
read-risen before after ended faults ends empties = record { faults = omega arith; ends = raised-or-not ended before.ends after.ends ends; empties = omega arith }

pub returns-in-Ok-clause-goes : goal.returns-in-Ok-clause-goes
returns-in-Ok-clause-goes g c may_stop session seat_then wire_then deeds runs begun offers =
    let r = c.in-Ok-Octets.ensures in
    let e = c.in-Ok.ensures in
    let wire = wire_by g.L.Link.given g.L.Link.taken g.L.Link.closed g.L.Link.faults g.L.Link.ends g.L.Link.empties in
    let before = wire c.args.link.now in
    let middle = wire c.read.new.self in
    let after = wire c.act.new.link in
    let octets = c.split_at.result.0.now in
    let input = Octets octets c.now.result in
    let taken_is : g.L.Link.given c.read.new.self ≡ behind (g.L.Link.given c.args.link.now) (take c.in-Ok-Octets.count c.read.new.buf) = rw c.in-Ok-Octets.field-0-is at r.given in
    let front_is : octets ≡ take c.in-Ok-Octets.count c.read.new.buf = c.split_at.ensures.front in
    acts-goes _ deeds _ runs input (course-more _ deeds.inputs input begun.now begun.inputs begun.claim runs.done.course c.now.ensures)
    c.act.new.self.session c.act.new.seat middle after c.act.new.self.out c.act.new.self.up c.act.new.self.messages (doing_of c.in-Ok.actions)
    (begun-more deeds input (answer c.args.roster.now input c.args.self.now.session.state).does begun) e.answered.does
    (ap (λ (h : Held). h.spent) c.act.ensures.session ∙ e.answered.now) (ap (λ (h : Held). h.state) c.act.ensures.session ∙ e.answered.after)
    c.act.ensures.put (taken_is ∙ ap (behind before.given) (sym front_is ∙ sym (append-nil octets))) r.taken (read-risen before middle _ r.never_falls r.ends r.empties)
    c.act.ensures.up (c.act.ensures.messages ∙ ap (counted_on c.args.self.now.messages) e.handled) c.act.result c.act.ensures.acts

pub returns-in-Err-bytes-clause-goes : goal.returns-in-Err-bytes-clause-goes
returns-in-Err-bytes-clause-goes g c may_stop session seat_then wire_then deeds runs begun offers =
    let r = c.in-Ok-Octets.ensures in
    let wire = wire_by g.L.Link.given g.L.Link.taken g.L.Link.closed g.L.Link.faults g.L.Link.ends g.L.Link.empties in
    let before = wire c.args.link.now in
    let middle = wire c.read.new.self in
    let taken_is : g.L.Link.given c.read.new.self ≡ behind (g.L.Link.given c.args.link.now) (take c.in-Ok-Octets.count c.read.new.buf) = rw c.in-Ok-Octets.field-0-is at r.given in
    (_, ends-unheard _ deeds _ runs.wanted runs.done c.bytes.new.self middle (take c.in-Ok-Octets.count c.read.new.buf) taken_is r.taken (read-risen before middle _ r.never_falls r.ends r.empties))

pub returns-in-Ok-End-clause-goes : goal.returns-in-Ok-End-clause-goes
returns-in-Ok-End-clause-goes g c may_stop session seat_then wire_then deeds runs begun offers =
    let r = c.in-Ok-End.ensures in
    let wire = wire_by g.L.Link.given g.L.Link.taken g.L.Link.closed g.L.Link.faults g.L.Link.ends g.L.Link.empties in
    let before = wire c.args.link.now in
    let middle = wire c.read.new.self in
    let given_is : g.L.Link.given c.read.new.self ≡ g.L.Link.given c.args.link.now = rw c.in-Ok-End.field-0-is at r.given in
    let ends_is : g.L.Link.ends c.read.new.self ≡ raised (g.L.Link.ends c.args.link.now) = rw c.in-Ok-End.field-0-is at r.ends in
    (_, ends-closed _ deeds _ runs begun c.args.self.now.session middle given_is r.taken (read-risen before middle _ r.never_falls r.ends r.empties) offers (omega (arith, ends_is)))

pub returns-in-Ok-NotReady-clause-goes : goal.returns-in-Ok-NotReady-clause-goes
returns-in-Ok-NotReady-clause-goes g c may_stop session seat_then wire_then deeds runs begun offers =
    let r = c.in-Ok-NotReady.ensures in
    let w = c.wait.ensures in
    let wire = wire_by g.L.Link.given g.L.Link.taken g.L.Link.closed g.L.Link.faults g.L.Link.ends g.L.Link.empties in
    let before = wire c.args.link.now in
    let after = wire c.wait.new.self in
    let given_is : g.L.Link.given c.read.new.self ≡ g.L.Link.given c.args.link.now = rw c.in-Ok-NotReady.field-0-is at r.given in
    let ends_is : g.L.Link.ends c.read.new.self ≡ g.L.Link.ends c.args.link.now = rw c.in-Ok-NotReady.field-0-is at r.ends in
    let risen : HasRisen before after = record { faults = omega (arith, r.never_falls, w.never_falls); ends = omega (arith, ends_is, w.ends); empties = omega (arith, r.empties, w.empties) } in
    rests-goes _ deeds _ runs begun after (w.given ∙ given_is) (w.taken ∙ r.taken) risen tt

pub returns-in-Err-clause-goes : goal.returns-in-Err-clause-goes
returns-in-Err-clause-goes g c may_stop session seat_then wire_then deeds runs begun offers =
    let r = c.in-Err.ensures in
    let wire = wire_by g.L.Link.given g.L.Link.taken g.L.Link.closed g.L.Link.faults g.L.Link.ends g.L.Link.empties in
    let before = wire c.args.link.now in
    let middle = wire c.read.new.self in
    (_, ends-fault _ deeds _ runs begun c.args.self.now.session middle r.given r.taken (read-risen before middle false r.never_falls r.ends r.empties) r.cause)
