use Rattle.std.proofs.Common.{◌∙◌, [], refl, sym, ap}
use Rattle.rcp_model.specs.Sessions.{Moment, answer}
use Rattle.session_core.specs.Held.{Held}
use Rattle.session_core.specs.Shown.{doing_of}
use Rattle.outside.specs.Told.{behind-nil}
use Rattle.outbox.specs.Wires.{wire_by}
use Rattle.outbox.proofs.Writing.{risen-same}
use Rattle.session_serve.proofs.PieceLemmas.{course-more}
use Rattle.session_serve.proofs.GoesLemmas.{acts-goes, begun-more, ends-unheard}
use Rattle.session_serve.proofs.serving.Serving.tick.Goals as goal

pub returns-in-Ok-clause-goes : goal.returns-in-Ok-clause-goes
returns-in-Ok-clause-goes g c may_stop session seat_then wire_then deeds runs begun =
    let e = c.in-Ok.ensures.answered c.args.roster.now in
    let before = (wire_by g.L.Link.given g.L.Link.taken g.L.Link.closed g.L.Link.faults g.L.Link.ends g.L.Link.empties c.args.link.now) in
    let after = (wire_by g.L.Link.given g.L.Link.taken g.L.Link.closed g.L.Link.faults g.L.Link.ends g.L.Link.empties c.act.new.link) in
    acts-goes _ deeds _ runs (Moment c.now.result) (course-more _ deeds.inputs (Moment c.now.result) begun.now begun.inputs begun.claim runs.done.course c.now.ensures) c.act.new.self.session c.act.new.seat before after c.act.new.self.out c.act.new.self.up c.act.new.self.messages (doing_of c.in-Ok.actions)
    (begun-more deeds (Moment c.now.result) (answer c.args.roster.now (Moment c.now.result) c.args.self.now.session.state).does begun) e.does
    (ap (λ (h : Held). h.spent) c.act.ensures.session ∙ e.now) (ap (λ (h : Held). h.state) c.act.ensures.session ∙ e.after)
    c.act.ensures.put (sym (behind-nil before.given)) refl (risen-same before) c.act.ensures.up c.act.ensures.messages c.act.result c.act.ensures.acts

pub returns-in-Err-clause-goes : goal.returns-in-Err-clause-goes
returns-in-Err-clause-goes g c may_stop session seat_then wire_then deeds runs begun =
    let before = (wire_by g.L.Link.given g.L.Link.taken g.L.Link.closed g.L.Link.faults g.L.Link.ends g.L.Link.empties c.args.link.now) in
    (_, ends-unheard _ deeds _ runs.wanted runs.done c.clock.new.self before [] (sym (behind-nil before.given)) refl (risen-same before))
