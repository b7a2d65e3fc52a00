use Rattle.std.proofs.Common.{Err, [], ◌∷◌, ◌++◌, refl, sym, ap, subst, ◌∙◌, append_assoc, length-append, IfOk, Result, arith, rules}
use Rattle.rcp_base.specs.declared.kinds.RosterWhy.{RosterWhy}
use Rattle.rcp_base.specs.Roster.{Named, roster_from, lines_of}
use Rattle.roster.specs.Form.{NamedInForm}
use Rattle.roster.proofs.FormLemmas.{line_kept, none_named}
use Rattle.roster.proofs.RoomLemmas.{refused}
use Rattle.roster.proofs.reading.read.Goals as goal

pub loop-front-init : goal.loop-front-init
loop-front-init c = record {
  same = ap (λ (named : Named). roster_from 1 named (lines_of c.args.text.now)) c.new-draft.ensures;
  form = subst NamedInForm (sym c.new-draft.ensures) none_named;
  before = ([], refl, refl);
  few = omega arith;
}

pub loop-front-preserved : goal.loop-front-preserved
loop-front-preserved c = record {
  same = search rules;
  form = subst (λ (r : Result Named RosterWhy). IfOk r NamedInForm) c.in_default-take.ensures.takes (line_kept c.loop-front.draft c.in-Some.front.now c.loop-front.invariant.form);
  before =
      let lines = c.loop-front.invariant.before in (
        lines.0 ++ c.in-Some.front.now ∷ [],
        append_assoc lines.0 (c.in-Some.front.now ∷ []) (lines_of c.in-Some.more.now) ∙ ap (λ more. lines.0 ++ more) (sym c.in-Some.ensures.lines) ∙ lines.1,
        simp length-append (omega (arith, lines.2)),
      );
  few = omega (arith, c.in-Some.ensures.shorter, c.loop-front.invariant.few);
}

pub returns-in-Err : goal.returns-in-Err
returns-in-Err c =
    let lines = c.loop-front.invariant.before in
    refused c.args.text.now c.loop-front.line c.loop-front.draft c.take.new.self lines.0 c.in-Some.front.now (lines_of c.in-Some.more.now)
    (ap (λ more. lines.0 ++ more) (sym c.in-Some.ensures.lines) ∙ lines.1) lines.2
    (ap (roster_from c.loop-front.line c.loop-front.draft) (sym c.in-Some.ensures.lines) ∙ c.loop-front.invariant.same)
    c.in-Err.stop c.in-Err.ensures.takes (λ is. c.in-Err.ensures.no_memory (ap Err is)) c.refusal.result c.refusal.ensures
