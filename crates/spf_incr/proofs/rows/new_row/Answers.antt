use Rattle.std.proofs.Common.{refl, subst, sym, ◌∙◌}
use Rattle.std.proofs.lemmas.Result.{IfOk-weaker}
use Rattle.cost_rows.specs.Search.{IsFound}
use Rattle.spf_incr.proofs.RowLemmas.{added_row}
use Rattle.spf_incr.proofs.rows.new_row.Goals as goal

pub returns-in-Added : goal.returns-in-Added
returns-in-Added c =
    let is = rw c.in-Added.is at c.requires.way.3 in
    let right = added_row c.requires.way.0 c.args.graph.now c.args.places.now.names.items c.args.root c.in-Added.hop c.args.row.now c.in-Added.ends.items c.requires.indexed.named.rising c.requires.way.1 c.requires.way.2 is c.requires.way.4 in
    IfOk-weaker _ _ _ (λ new made. subst (IsFound c.args.graph.now c.args.places.now.names.items c.args.root) (sym (made ∙ rw (c.end_cost-through.ensures, c.as_slice.ensures.value) refl)) right) c.lower.ensures
