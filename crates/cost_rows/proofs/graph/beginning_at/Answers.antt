use Rattle.std.proofs.Common.{◌∙◌, ap, take}
use Rattle.cost_rows.proofs.graph.beginning_at.Goals as goal

pub returns : goal.returns
returns c = c.split_at-2.ensures.front ∙ ap (take c.run_of-start.result.1) c.split_at.ensures.back ∙ c.run_of-start.ensures.run
