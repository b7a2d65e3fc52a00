use Rattle.std.proofs.Common.{sym, subst, arith}
use Rattle.std.proofs.lemmas.List.{get_or_default}
use Rattle.route_store.specs.Rows.{IsRising}
use Rattle.route_store.proofs.RowLemmas.{number_at_place, none_in_gap}
use Rattle.route_store.proofs.row.Row.get.Goals as goal

pub returns-in-Ok : goal.returns-in-Ok
returns-in-Ok c =
    let value = number_at_place _ (subst IsRising c.self.view_is c.self.invariant) _ _ c.in-Ok.ensures.found in
    let read = get_or_default _ _ c.index.result.now (0, 0) c.in-Ok.ensures.found.in_range in
    grind (arith, c.self.view_is)

pub returns-in-Err : goal.returns-in-Err
returns-in-Err c = sym (none_in_gap _ _ _ c.in-Err.ensures.absent)
