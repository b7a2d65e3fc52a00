use Rattle.std.proofs.Common.{[]}
use Rattle.rcp_model.proofs.MemberLemmas.{Contains-head}
use Rattle.cost_rows.proofs.search.costs.Goals as goal

pub row-requires-clause-root : goal.row-requires-clause-root
row-requires-clause-root c = rw c.as_slice.ensures.value (c.in_ok-names.ensures.more c.args.root (Contains-head c.args.root []))
