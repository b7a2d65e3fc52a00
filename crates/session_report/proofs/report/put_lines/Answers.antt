use Rattle.std.proofs.Common.{ℕ, sym, ap, ◌∙◌, Vec, Global}
use Rattle.session_report.proofs.ReportLemmas.{line_here, no_line_here}
use Rattle.session_report.proofs.report.put_lines.Goals as goal
use Rattle.session_report.proofs.report.put_lines.Goals.{then-place_in-place+in_ok-put_line, else-place_in-place}

pub loop-end-preserved : goal.loop-end-preserved
loop-end-preserved c = elim c.if-place_in-place.branch [
  | then-place_in-place+in_ok-put_line w ↦ line_here _ _ _ c.args.ends.now c.loop-end.end-index c.end-item.result c.args.text.now.items c.loop-end.text.items _ c.end-item.is c.loop-end-test.true
      c.loop-end.invariant (ap (λ (t : Vec ℕ Global). t.items) w.text-is ∙ w.in_ok-put_line.ensures) (sym c.place_in.ensures ∙ w.if-place_in-place.true)
  | else-place_in-place w ↦ ap (λ (t : Vec ℕ Global). t.items) w.text-is ∙ no_line_here _ _ _ c.args.ends.now c.loop-end.end-index c.end-item.result c.args.text.now.items c.loop-end.text.items c.end-item.is c.loop-end-test.true
      c.loop-end.invariant (λ e. w.if-place_in-place.false (c.place_in.ensures ∙ e))
]
