use Rattle.std.proofs.Common.{◌∙◌, ◌++◌}
use Rattle.session_report.specs.Reports.{lines_at}
use Rattle.session_report.proofs.ReportLemmas.{next_place}
use Rattle.session_report.proofs.report.report_text.Goals as goal

pub loop-place-preserved : goal.loop-place-preserved
loop-place-preserved c = next_place c.args.roster.now.members c.args.ends.now c.loop-place.place c.member.result c.loop-place.text.items c.put_lines.new.text.items c.member.ensures.value c.loop-place.invariant
    (c.in_ok-put_lines.ensures ∙ (λ i. c.loop-place.text.items ++ lines_at (c.len-routers.ensures.len i) c.loop-place.place ((c.deref.ensures ∙ c.in_ok-router.ensures.ok) i) c.args.ends.now))
