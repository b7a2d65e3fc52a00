use Rattle.std.proofs.Common.{sym}
use Rattle.cost_rows.proofs.PlaceLemmas.{include_found}
use Rattle.cost_rows.proofs.graph.include.Goals as goal

pub returns-in_default-clause-ok : goal.returns-in_default-clause-ok
returns-in_default-clause-ok c =
    sym (include_found c.args.edge c.in_default.field-0 c.args.edges.now.items c.requires (rw c.as_slice.ensures.value at c.in_default.ensures.found))
