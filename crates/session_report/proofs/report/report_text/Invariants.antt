-- The lines for the members so far were put, and those for the others are to come.
use Rattle.std.proofs.Common.{◌≡◌, ◌++◌, drop, length}
use Rattle.session_report.specs.Reports.{lines_from, report_of}
use Rattle.session_report.proofs.report.report_text.Given as goal

abbrev pub invariant-loop-place : goal.invariant-loop-place
invariant-loop-place l = l.text.items ++ lines_from (length l.roster.members) l.place (drop l.place l.roster.members) l.ends ≡ report_of l.roster.members l.ends
