use Rattle.std.proofs.Common.{◌≡◌, ◌-◌, false, eqb, length, get_or, take, drop, refl, ap, ◌∙◌, arith, length-drop}
use Rattle.std.proofs.lemmas.Bool.Decides.{nat_tests}
use Rattle.std.proofs.lemmas.List.{take_all}
use Rattle.rcp_model.specs.Attributes.{is_faulty_path, number_width}
use Rattle.path_attrs.proofs.Paths.{faulty-none, judged_front, kind_inside}
use Rattle.path_attrs.proofs.path.front_segment.Goals as goal

pub returns-in_err-segment-clause-none : goal.returns-in_err-segment-clause-none
returns-in_err-segment-clause-none c = rw c.from_residual.ensures (faulty-none c.args.octets.now c.in_err-segment.ensures.none)

pub returns-clause-faultless : goal.returns-clause-faultless
returns-clause-faultless c =
    let segment = c.in_ok-segment.segment.now in
    let counted = c.in_ok-segment.ensures.counted in
    let numbers = take_all (length segment - 2) (drop 2 segment) (omega (arith, length-drop 2 segment)) in
    let size : length (take (length segment - 2) (drop 2 segment)) ≡ length segment - 2 = ap length numbers ∙ length-drop 2 segment in
    let some : eqb (get_or segment 1 0) 0 ≡ false = grind (arith, nat_tests, size, counted, c.if-is_empty.ensures) in
    let known = kind_inside c.in_ok-kind.kind _ c.in_ok-kind.ensures in
    ap (is_faulty_path number_width) c.in_ok-segment.ensures.spelled ∙ judged_front segment c.in_ok-segment.after.now c.in_ok-segment.ensures.long counted ∙ rw (known, some) refl
