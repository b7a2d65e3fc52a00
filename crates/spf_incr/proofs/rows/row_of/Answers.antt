use Rattle.std.proofs.Common.{ap, ◌∙◌}
use Rattle.std.proofs.lemmas.List.Kept.{AllPairs-from_increasing}
use Rattle.rcp_base.specs.Maps.{get_at}
use Rattle.rcp_model.specs.LinkState.{same_number}
use Rattle.cost_rows.proofs.RowLemmas.{reached_rise, get-reached}
use Rattle.spf_incr.proofs.rows.row_of.Goals as goal

pub from_pairs-requires : goal.from_pairs-requires
from_pairs-requires c = rw c.in_ok-pairs.ensures (reached_rise c.args.names.now c.args.costs.now (AllPairs-from_increasing c.args.names.now c.requires))

pub returns : goal.returns
returns c router = ap (get_at same_number router) (c.from_pairs.ensures ∙ c.in_ok-pairs.ensures) ∙ get-reached c.args.names.now c.args.costs.now router (AllPairs-from_increasing c.args.names.now c.requires)
