use Rattle.std.proofs.Common.{ap, ◌∙◌}
use Rattle.rcp_base.specs.Maps.{get_at}
use Rattle.rcp_model.specs.LinkState.{same_number}
use Rattle.hop_walk.proofs.TurnLemmas.{cost-turned}
use Rattle.hop_walk.proofs.ways.Ways.to.Goals as goal

pub invariant_of-result : goal.invariant_of-result
invariant_of-result c = λ u.
    ap (get_at same_number u) c.from_pairs-row.ensures ∙ c.in_ok-pairs.ensures.exact u ∙ cost-turned c.args.graph c.in_ok-back.back c.in_ok-back.ensures u c.args.end
