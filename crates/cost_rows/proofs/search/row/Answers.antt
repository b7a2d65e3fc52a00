use Rattle.std.proofs.Common.{subst, sym, ◌∙◌, ap}
use Rattle.std.proofs.lemmas.Result.{IfOk-weaker}
use Rattle.rcp_model.specs.Graphs.{IsCostRow}
use Rattle.cost_rows.specs.Search.{reached}
use Rattle.cost_rows.proofs.RowLemmas.{row_is}
use Rattle.cost_rows.proofs.search.row.Goals as goal

pub returns : goal.returns
returns c =
    let exact = row_is c.args.graph.now c.args.names.now c.args.root c.in_ok-least.least.items c.requires.names c.in_ok-least.ensures in
    IfOk-weaker _ _ _ (λ pairs is. subst (IsCostRow c.args.graph.now c.args.root) (sym (is ∙ ap (reached c.args.names.now) c.as_slice.ensures.value)) exact) c.pairs.ensures
