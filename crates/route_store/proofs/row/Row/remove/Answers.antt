use Rattle.std.proofs.Common.{sym, subst, arith}
use Rattle.std.proofs.lemmas.List.{get_or_default}
use Rattle.route_store.specs.Rows.{IsRising}
use Rattle.route_store.proofs.RowLemmas.{number_at_place, none_in_gap, puts_none, puts_remove}
use Rattle.route_store.proofs.row.Row.remove.Goals as goal

pub returns-in-Ok-clause-value : goal.returns-in-Ok-clause-value
returns-in-Ok-clause-value c =
    let value = number_at_place _ (subst IsRising c.self.view_is c.self.invariant) _ _ c.in-Ok.ensures.found in
    let read = get_or_default _ _ c.remove.result (0, 0) c.in-Ok.ensures.found.in_range in
    grind (arith, c.self.view_is)

pub returns-in-Ok-clause-removed : goal.returns-in-Ok-clause-removed
returns-in-Ok-clause-removed c = rw (c.remove.ensures.items, c.self.view_is) (puts_remove _ (subst IsRising c.self.view_is c.self.invariant) _ _ c.in-Ok.ensures.found)

pub returns-in-Err-clause-value : goal.returns-in-Err-clause-value
returns-in-Err-clause-value c = sym (none_in_gap _ _ _ c.in-Err.ensures.absent)

pub returns-in-Err-clause-removed : goal.returns-in-Err-clause-removed
returns-in-Err-clause-removed c = puts_none _ _ (none_in_gap _ _ _ c.in-Err.ensures.absent)
