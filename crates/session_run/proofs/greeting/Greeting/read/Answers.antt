use Rattle.std.proofs.Common.{◌≡◌, ◌≤◌, ◌∙◌, Bool, false, cond, take, sym, ap, append-nil, arith}
use Rattle.rcp_model.specs.Sessions.{Octets}
use Rattle.session_core.specs.Held.{Held}
use Rattle.session_core.specs.Shown.{doing_of}
use Rattle.outside.specs.Told.{behind, raised}
use Rattle.outbox.specs.Wires.{WireOf, HasRisen, wire_by}
use Rattle.outbox.specs.Outs.{counted_on}
use Rattle.outbox.proofs.Writing.{raised-or-not}
use Rattle.session_run.proofs.GreetLemmas.{answer-goes, parts-unheard, parts-closed, parts-fault, rests-goes}
use Rattle.session_run.proofs.greeting.Greeting.read.Goals as goal

-- a read may raise the counts of faults and of ends
read-risen : (before after : WireOf) (ended : Bool) → before.faults ≤ after.faults → after.ends ≡ cond ended (raised before.ends) before.ends → after.empties ≡ before.empties → HasRisen before after
read-risen before after ended faults ends empties = record { faults = omega arith; ends = raised-or-not ended before.ends after.ends ends; empties = omega arith }

pub returns-in-Ok : goal.returns-in-Ok
returns-in-Ok g c may_stop wire_then exchange greets =
    let r = c.in-Ok-Octets.ensures in
    let e = c.in-Ok.ensures in
    let wire = wire_by g.L.Link.given g.L.Link.taken g.L.Link.closed g.L.Link.faults g.L.Link.ends g.L.Link.empties in
    let before = wire c.args.link.now in
    let middle = wire c.read.new.self in
    let octets = c.split_at.result.0.now in
    let taken_is : g.L.Link.given c.read.new.self ≡ behind (g.L.Link.given c.args.link.now) (take c.in-Ok-Octets.count c.read.new.buf) = rw c.in-Ok-Octets.field-0-is at r.given in
    let front_is : octets ≡ take c.in-Ok-Octets.count c.read.new.buf = c.split_at.ensures.front in
    answer-goes _ exchange _ greets (Octets octets c.now.result) c.now.ensures c.act.new.self.session middle c.act.new.self.out c.act.new.self.slot c.act.new.self.messages (doing_of c.in-Ok.actions) e.answered.does
    (ap (λ (h : Held). h.spent) c.act.ensures.session ∙ e.answered.now) (ap (λ (h : Held). h.state) c.act.ensures.session ∙ e.answered.after)
    (taken_is ∙ ap (behind before.given) (sym front_is ∙ sym (append-nil octets))) r.taken (read-risen before middle _ r.never_falls r.ends r.empties)
    c.act.ensures.slot (c.act.ensures.messages ∙ ap (counted_on c.args.self.now.messages) e.handled) c.act.result c.act.ensures.queues

pub returns-in-Err-bytes : goal.returns-in-Err-bytes
returns-in-Err-bytes g c may_stop wire_then exchange greets =
    let r = c.in-Ok-Octets.ensures in
    let wire = wire_by g.L.Link.given g.L.Link.taken g.L.Link.closed g.L.Link.faults g.L.Link.ends g.L.Link.empties in
    let before = wire c.args.link.now in
    let middle = wire c.read.new.self in
    let taken_is : g.L.Link.given c.read.new.self ≡ behind (g.L.Link.given c.args.link.now) (take c.in-Ok-Octets.count c.read.new.buf) = rw c.in-Ok-Octets.field-0-is at r.given in
    (_, parts-unheard _ exchange _ greets.complete greets.met c.bytes.new.self middle (take c.in-Ok-Octets.count c.read.new.buf) taken_is r.taken (read-risen before middle _ r.never_falls r.ends r.empties))

pub returns-in-Ok-End : goal.returns-in-Ok-End
returns-in-Ok-End g c may_stop wire_then exchange greets =
    let r = c.in-Ok-End.ensures in
    let wire = wire_by g.L.Link.given g.L.Link.taken g.L.Link.closed g.L.Link.faults g.L.Link.ends g.L.Link.empties in
    let before = wire c.args.link.now in
    let middle = wire c.read.new.self in
    let given_is : g.L.Link.given c.read.new.self ≡ g.L.Link.given c.args.link.now = rw c.in-Ok-End.field-0-is at r.given in
    let ends_is : g.L.Link.ends c.read.new.self ≡ raised (g.L.Link.ends c.args.link.now) = rw c.in-Ok-End.field-0-is at r.ends in
    (_, parts-closed _ exchange _ greets middle given_is r.taken (read-risen before middle _ r.never_falls r.ends r.empties) (omega (arith, ends_is)))

pub returns-in-Ok-NotReady : goal.returns-in-Ok-NotReady
returns-in-Ok-NotReady g c may_stop wire_then exchange greets =
    let r = c.in-Ok-NotReady.ensures in
    let w = c.wait-in-Ok-NotReady.ensures in
    let wire = wire_by g.L.Link.given g.L.Link.taken g.L.Link.closed g.L.Link.faults g.L.Link.ends g.L.Link.empties in
    let before = wire c.args.link.now in
    let after = wire c.wait-in-Ok-NotReady.new.self in
    let given_is : g.L.Link.given c.read.new.self ≡ g.L.Link.given c.args.link.now = rw c.in-Ok-NotReady.field-0-is at r.given in
    let ends_is : g.L.Link.ends c.read.new.self ≡ g.L.Link.ends c.args.link.now = rw c.in-Ok-NotReady.field-0-is at r.ends in
    let risen : HasRisen before after = record { faults = omega (arith, r.never_falls, w.never_falls); ends = omega (arith, ends_is, w.ends); empties = omega (arith, r.empties, w.empties) } in
    rests-goes _ exchange _ greets after (w.given ∙ given_is) (w.taken ∙ r.taken) risen tt

pub returns-in-Err : goal.returns-in-Err
returns-in-Err g c may_stop wire_then exchange greets =
    let r = c.in-Err.ensures in
    let wire = wire_by g.L.Link.given g.L.Link.taken g.L.Link.closed g.L.Link.faults g.L.Link.ends g.L.Link.empties in
    let before = wire c.args.link.now in
    let middle = wire c.read.new.self in
    (_, parts-fault _ exchange _ greets middle r.given r.taken (read-risen before middle false r.never_falls r.ends r.empties) r.cause)

pub returns-then-is_some : goal.returns-then-is_some
returns-then-is_some g c may_stop wire_then exchange greets =
    let w = c.wait.ensures in
    let wire = wire_by g.L.Link.given g.L.Link.taken g.L.Link.closed g.L.Link.faults g.L.Link.ends g.L.Link.empties in
    let before = wire c.args.link.now in
    let after = wire c.wait.new.self in
    let risen : HasRisen before after = record { faults = omega (arith, w.never_falls); ends = omega (arith, w.ends); empties = omega (arith, w.empties) } in
    rests-goes _ exchange _ greets after w.given w.taken risen tt
