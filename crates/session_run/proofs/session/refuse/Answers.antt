-- The Cease is written as far as the link takes it, or there was no memory for it.
use Rattle.std.proofs.Common.{◌∙◌, [], ◌∷◌, ◌++◌, Some, refl, sym, ap, subst}
use Rattle.outbox.specs.Wires.{wire_by}
use Rattle.outbox.specs.Outs.{OutOf}
use Rattle.session_serve.specs.declared.ends.EndWhy.{EndWhy}
use Rattle.session_run.specs.Sessions.{cease, IsRefused}
use Rattle.session_run.proofs.RefuseLemmas.{refused}
use Rattle.session_run.proofs.session.refuse.Goals as goal
use Rattle.session_run.proofs.session.refuse.Goals.{in-Ok, in-Err}

pub returns : goal.returns
returns g c =
    let wire = wire_by g.L.Link.given g.L.Link.taken g.L.Link.closed g.L.Link.faults g.L.Link.ends g.L.Link.empties in
    let before = wire c.args.link.now in
    let after = wire c.write_last.new.link in
    let w = c.write_last.ensures.written in
    let out = c.write_last.new.self in
    let done = c.write_last.ensures.done in
    elim c.match-add_cease.branch [
      | in-Ok b ↦ (
        w.0,
        [],
        out,
        subst (λ (end : EndWhy). IsRefused c.args.out.slot before after (record { why = end; slot = Some c.slot-slot.result; generation = 0; messages = 0; updates = 0 }) w.0 [] out) (sym b.why-is)
            (refused before after (cease ∷ []) c.add_cease.new.outbox out (b.in-Ok.ensures.pushed ∙ ap (λ (o : OutOf). let r : OutOf = record o { waiting = o.waiting ++ cease ∷ [] } in r) c.new-outbox.ensures) w done c.args.out.slot c.slot-slot.result c.slot-slot.ensures _ [] refl tt (λ memory. refl)),
      )
      | in-Err b ↦ (
        w.0,
        cease ∷ [],
        out,
        subst (λ (end : EndWhy). IsRefused c.args.out.slot before after (record { why = end; slot = Some c.slot-slot.result; generation = 0; messages = 0; updates = 0 }) w.0 (cease ∷ []) out) (sym b.why-is)
            (refused before after [] c.add_cease.new.outbox out (b.in-Err.ensures.refused ∙ c.new-outbox.ensures) w done c.args.out.slot c.slot-slot.result c.slot-slot.ensures _ (cease ∷ []) refl tt (λ never. absurd never)),
      )
    ]
