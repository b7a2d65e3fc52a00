use Rattle.std.specs.Prelude.{slice_index}
use Rattle.std.proofs.Common.{◌≡◌, ℕ, ◌<◌, List, ◌∷◌, [], ◌++◌, length, sym, ap, subst, ◌∙◌, arith}
use Rattle.std.proofs.lemmas.List.{length-drop}
use Rattle.std.proofs.lemmas.Result.{err_from_is_err_and}
use Rattle.rcp_model.specs.Attributes.{attribute_of}
use Rattle.path_attrs.specs.Readings.{all_inserted, passed_on, piece_at}
use Rattle.path_attrs.specs.Shown.{all_shown}
use Rattle.path_attrs.proofs.Cutting.{IsBytes, IsBytes-take, IsBytes-drop}
use Rattle.path_attrs.proofs.Judging.{reading-begins, reading-goes_on, reading-keeps, reading-stops, reading-ends, sized}
use Rattle.path_attrs.proofs.Types.{sent_on-push}
use Rattle.path_attrs.proofs.reading.read_list.Goals as goal

pub loop-place-init : goal.loop-place-init
loop-place-init c = ([], reading-begins c.args.body.now c.args.seen.now c.requires.unmarked, ap all_shown c.new-values.ensures.items, c.requires.types, omega arith)

pub returns-in_err-piece-clause-fault : goal.returns-in_err-piece-clause-fault
returns-in_err-piece-clause-fault c =
    let p = err_from_is_err_and c.from_residual.result c.from_residual.ensures.1 in
    let now = c.loop-place.invariant in
    rw (p.1, p.2)
    (reading-stops c.args.body.now c.loop-place.place c.loop-place.seen now.0 now.1 c.loop-place-test.true (λ k. omega (arith, c.type_inv.body k)) c.in_err-piece.field-0.0 c.in_err-piece.ensures.fault).0

pub returns-in_err-piece-clause-within : goal.returns-in_err-piece-clause-within
returns-in_err-piece-clause-within c =
    let p = err_from_is_err_and c.from_residual.result c.from_residual.ensures.1 in
    let now = c.loop-place.invariant in
    rw (p.1, p.2)
    (reading-stops c.args.body.now c.loop-place.place c.loop-place.seen now.0 now.1 c.loop-place-test.true (λ k. omega (arith, c.type_inv.body k)) c.in_err-piece.field-0.0 c.in_err-piece.ensures.fault).1

octet : (body : List ℕ) (place : ℕ) (piece : List ℕ) → IsBytes body → piece ≡ piece_at body place (length piece) → slice_index piece 1 < 256
octet body place piece bytes taken =
    subst (λ q. slice_index q 1 < 256) (sym taken) (IsBytes-take (length piece) _ (IsBytes-drop place body bytes) 1)

pub returns-in_err-add_value-clause-memory : goal.returns-in_err-add_value-clause-memory
returns-in_err-add_value-clause-memory c =
    let p = err_from_is_err_and c.from_residual-in_err-add_value.result c.from_residual-in_err-add_value.ensures.1 in
    let now = c.loop-place.invariant in
    let next = c.in_ok-piece.ensures.piece in
    rw (p.1, p.2)
    (reading-keeps c.args.body.now c.loop-place.place c.loop-place.seen now.0 now.1 c.in_ok-piece.piece.now next.whole next.taken c.in_ok-piece.ensures.faultless (octet c.args.body.now c.loop-place.place c.in_ok-piece.piece.now (λ k. omega (arith, c.type_inv.body k)) next.taken) c.in_err-add_value.ensures.memory)

pub loop-place-preserved : goal.loop-place-preserved
loop-place-preserved c =
    let now = c.loop-place.invariant in
    let next = c.in_ok-piece.ensures.piece in
    let a = attribute_of c.in_ok-piece.piece.now in
    let step = reading-goes_on c.args.body.now c.loop-place.place c.loop-place.seen now.0 now.1 c.in_ok-piece.piece.now next.whole next.taken c.in_ok-piece.ensures.faultless (octet c.args.body.now c.loop-place.place c.in_ok-piece.piece.now (λ k. omega (arith, c.type_inv.body k)) next.taken) now.3 in (
      now.0 ++ a ∷ [],
      rw next.marked step.0,
      c.in_ok-add_value.ensures.values ∙ ap (all_inserted (passed_on (a ∷ []))) now.2 ∙ sym (sent_on-push now.0 a step.1),
      c.in_ok-piece.ensures.types,
      omega (arith, (sized _ _ next.whole).fits, length-drop c.loop-place.place c.args.body.now, c.loop-place-test.true),
    )

pub returns-clause-faultless : goal.returns-clause-faultless
returns-clause-faultless c =
    (reading-ends c.args.body.now c.loop-place.place c.loop-place.seen c.loop-place.invariant.0 c.loop-place.invariant.1 c.loop-place-test.false).0
