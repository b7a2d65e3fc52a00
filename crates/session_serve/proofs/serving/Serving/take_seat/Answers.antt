use Rattle.std.proofs.Common.{◌∙◌, true, [], refl, sym, ap}
use Rattle.rcp_model.specs.Sessions.{Seat}
use Rattle.session_core.specs.Held.{Held}
use Rattle.session_core.specs.Shown.{doing_of}
use Rattle.outside.specs.Told.{behind-nil}
use Rattle.outbox.specs.Wires.{wire_by}
use Rattle.outbox.specs.Outs.{counted_on}
use Rattle.outbox.proofs.Writing.{risen-same}
use Rattle.session_serve.specs.Deeds.{no_deeds}
use Rattle.session_serve.proofs.GoesLemmas.{acts-goes, begins, ends-unheard}
use Rattle.session_serve.proofs.serving.Serving.take_seat.Goals as goal

pub returns-in-Ok-clause-goes : goal.returns-in-Ok-clause-goes
returns-in-Ok-clause-goes g c may_stop session seat_then wire_then slot runs claims =
    let e = c.in-Ok.ensures in
    let before = (wire_by g.L.Link.given g.L.Link.taken g.L.Link.closed g.L.Link.faults g.L.Link.ends g.L.Link.empties c.args.link.now) in
    let after = (wire_by g.L.Link.given g.L.Link.taken g.L.Link.closed g.L.Link.faults g.L.Link.ends g.L.Link.empties c.act.new.link) in
    acts-goes _ no_deeds _ runs (Seat true c.now.result) (refl, c.now.ensures, tt) c.act.new.self.session c.act.new.seat before after c.act.new.self.out c.act.new.self.up c.act.new.self.messages (doing_of c.in-Ok.actions)
    (begins c.args.roster.now c.args.self.now.session.state c.now.result claims.since slot claims.terms claims.claims) e.answered.does
    (ap (λ (h : Held). h.spent) c.act.ensures.session ∙ e.answered.now) (ap (λ (h : Held). h.state) c.act.ensures.session ∙ e.answered.after)
    c.act.ensures.put (sym (behind-nil before.given)) refl (risen-same before) c.act.ensures.up (c.act.ensures.messages ∙ ap (counted_on c.args.self.now.messages) e.handled) c.act.result c.act.ensures.acts

pub returns-in-Err-clause-goes : goal.returns-in-Err-clause-goes
returns-in-Err-clause-goes g c may_stop session seat_then wire_then slot runs claims =
    let before = (wire_by g.L.Link.given g.L.Link.taken g.L.Link.closed g.L.Link.faults g.L.Link.ends g.L.Link.empties c.args.link.now) in
    (_, ends-unheard _ no_deeds _ runs.wanted runs.done c.seated.new.self before [] (sym (behind-nil before.given)) refl (risen-same before))
