use Rattle.std.proofs.Common.{take}
use Rattle.std.specs.List.{AllZip}
use Rattle.cost_rows.specs.Search.{IsRunOf}
use Rattle.cost_rows.proofs.places.runs_in.Given as goal

abbrev pub invariant-loop-name : goal.invariant-loop-name
invariant-loop-name l = AllZip (IsRunOf l.edges) (take l.name-index l.names) l.runs.items
