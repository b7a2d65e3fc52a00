-- The lines of the records before this one were put at the end.
use Rattle.std.proofs.Common.{◌≡◌, ◌++◌, take}
use Rattle.std.specs.List.{flat_map}
use Rattle.rcp_run.specs.Trials.{summary_line}
use Rattle.rcp_run.proofs.generated.put_summaries.Given as goal

abbrev pub invariant-loop-out : goal.invariant-loop-out
invariant-loop-out l = l.text.items ≡ l.fn.text.items ++ flat_map summary_line (take l.out-index l.outs)
