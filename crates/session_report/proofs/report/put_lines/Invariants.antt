-- The lines of the ends so far were put.
use Rattle.std.proofs.Common.{◌≡◌, ◌++◌, take}
use Rattle.session_report.specs.Reports.{lines_at}
use Rattle.session_report.proofs.report.put_lines.Given as goal

abbrev pub invariant-loop-end : goal.invariant-loop-end
invariant-loop-end l = l.text.items ≡ l.fn.text.items ++ lines_at l.routers l.place l.router (take l.end-index l.ends)
