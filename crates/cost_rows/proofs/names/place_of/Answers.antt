use Rattle.cost_rows.proofs.NameLemmas.{name_found}
use Rattle.cost_rows.proofs.names.place_of.Goals as goal

pub unreachable-requires : goal.unreachable-requires
unreachable-requires c = rw c.in-Err.is at (name_found c.args.names.now c.args.router c.binary_search.result c.binary_search.ensures.position c.requires.rising c.requires.named)

pub returns : goal.returns
returns c = rw c.in-Ok.is at (name_found c.args.names.now c.args.router c.binary_search.result c.binary_search.ensures.position c.requires.rising c.requires.named)
