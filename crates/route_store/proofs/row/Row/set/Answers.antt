use Rattle.std.proofs.Common.{sym, subst, arith}
use Rattle.std.proofs.lemmas.List.{get_or_default}
use Rattle.route_store.specs.Rows.{IsRising}
use Rattle.route_store.proofs.RowLemmas.{number_at_place, none_in_gap, puts_set, puts_insert}
use Rattle.route_store.proofs.row.Row.set.Goals as goal

-- the slot was there, and its number is written over
pub returns-in-Ok-clause-old : goal.returns-in-Ok-clause-old
returns-in-Ok-clause-old c =
    let value = number_at_place _ (subst IsRising c.self.view_is c.self.invariant) _ _ c.in-Ok.ensures.found in
    let read = get_or_default _ _ c.index.result.now (0, 0) c.in-Ok.ensures.found.in_range in
    grind (arith, c.self.view_is)

pub returns-in-Ok-clause-set : goal.returns-in-Ok-clause-set
returns-in-Ok-clause-set c = rw (c.new-announcer.ensures, c.self.view_is) (puts_set _ (subst IsRising c.self.view_is c.self.invariant) _ _ c.in-Ok.ensures.found _)

-- the slot is added in its gap
pub returns-in-Ok-insert-clause-old : goal.returns-in-Ok-insert-clause-old
returns-in-Ok-insert-clause-old c = sym (none_in_gap _ _ _ c.in-Err.ensures.absent)

pub returns-in-Ok-insert-clause-set : goal.returns-in-Ok-insert-clause-set
returns-in-Ok-insert-clause-set c = rw (c.in-Ok-insert.ensures.items, c.new-announcer.ensures, c.self.view_is) (puts_insert _ _ _ c.in-Err.ensures.absent _)
