-- What came is handled, and then the clock is looked at.
use Rattle.std.proofs.Common.{◌∙◌, [], refl, sym, ap}
use Rattle.rcp_model.specs.Sessions.{Moment}
use Rattle.session_core.specs.Held.{Held}
use Rattle.session_core.specs.Shown.{doing_of}
use Rattle.outside.specs.Told.{behind-nil}
use Rattle.outbox.specs.Wires.{wire_by}
use Rattle.outbox.proofs.Writing.{risen-same}
use Rattle.session_run.proofs.GreetLemmas.{answer-goes, parts-unheard}
use Rattle.session_run.proofs.greeting.Greeting.turn.Goals as goal

pub returns-in-Err : goal.returns-in-Err
returns-in-Err g c may_stop wire_then exchange greets = c.in-Err.ensures may_stop wire_then exchange greets

pub returns-in-Ok : goal.returns-in-Ok
returns-in-Ok g c may_stop wire_then exchange greets =
    let wire = wire_by g.L.Link.given g.L.Link.taken g.L.Link.closed g.L.Link.faults g.L.Link.ends g.L.Link.empties in
    let r = c.in_default.ensures may_stop wire_then exchange greets in
    let after = wire c.read.new.link in
    let e = c.in-Ok.ensures.answered c.args.roster.now in
    answer-goes _ r.0 _ r.1 (Moment c.now.result) c.now.ensures c.act.new.self.session after c.act.new.self.out c.act.new.self.slot c.act.new.self.messages (doing_of c.in-Ok.actions) e.does
    (ap (λ (h : Held). h.spent) c.act.ensures.session ∙ e.now) (ap (λ (h : Held). h.state) c.act.ensures.session ∙ e.after)
    (sym (behind-nil after.given)) refl (risen-same after) c.act.ensures.slot c.act.ensures.messages c.act.result c.act.ensures.queues

pub returns-in-Err-clock : goal.returns-in-Err-clock
returns-in-Err-clock g c may_stop wire_then exchange greets =
    let wire = wire_by g.L.Link.given g.L.Link.taken g.L.Link.closed g.L.Link.faults g.L.Link.ends g.L.Link.empties in
    let r = c.in_default.ensures may_stop wire_then exchange greets in
    let after = wire c.read.new.link in
    (_, parts-unheard _ r.0 _ r.1.complete r.1.met c.clock.new.self after [] (sym (behind-nil after.given)) refl (risen-same after))
