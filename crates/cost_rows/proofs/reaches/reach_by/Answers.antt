use Rattle.std.proofs.Common.{subst, sym, ◌∙◌}
use Rattle.cost_rows.specs.Views.{cost_at, IsRanking}
use Rattle.cost_rows.proofs.ReachLemmas.{row_low, reach_row}
use Rattle.cost_rows.proofs.reaches.reach_by.Goals as goal

pub costs_in-requires : goal.costs_in-requires
costs_in-requires c = row_low c.args.graph.now c.args.members.now c.args.slot c.args.row.now c.edges-edges.ensures.kept c.requires.row

pub returns : goal.returns
returns c =
    rw c.in_ok-new-2.ensures.ok
    (reach_row c.args.graph.now c.args.members.now c.args.slot c.args.row.now c.in_ok-new.field-0 c.requires.row (c.in_ok-new.ensures.costs ∙ c.in_ok-costs.ensures)
    (subst (λ costs. IsRanking c.args.members.now (cost_at costs) c.in_ok-new.field-0.ranked) (sym c.in_ok-new.ensures.costs) c.in_ok-new.ensures.ranking))
