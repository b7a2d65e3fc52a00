use Rattle.std.proofs.Common.{Some, None, IsSome, refl, subst}
use Rattle.std.specs.BTreeMap as tree
use Rattle.rcp_base.specs.IpPrefix.{prefix_cmp}
use Rattle.route_store.proofs.NumberLemmas.{puts_at, filled_at, row_puts, row_gone, gone_through}
use Rattle.route_store.proofs.rows.take.Goals as goal

-- others announce the prefix too
pub returns-then-not-is_empty-clause-taken : goal.returns-then-not-is_empty-clause-taken
returns-then-not-is_empty-clause-taken c =
    puts_at c.args.rows.now (c.get_mut.follows.lender c.remove-number.new.self) c.args.p (Some c.remove-number.new.self)
    ((c.get_mut.follows.holds c.remove-number.new.self).3 (subst IsSome c.in-Some.ensures.value refl)).0
    c.args.slot None
    (row_puts c.in-Some.row.now c.remove-number.new.self c.args.slot None (tree.get prefix_cmp c.args.rows.now c.args.p) c.remove-number.ensures.removed c.in-Some.ensures.value)

pub returns-then-not-is_empty-clause-filled : goal.returns-then-not-is_empty-clause-filled
returns-then-not-is_empty-clause-filled c =
    filled_at c.args.rows.now (c.get_mut.follows.lender c.remove-number.new.self) c.args.p (Some c.remove-number.new.self)
    ((c.get_mut.follows.holds c.remove-number.new.self).3 (subst IsSome c.in-Some.ensures.value refl)).0
    c.requires
    (λ empty. let is = c.is_empty.ensures.1 empty in let not = c.if-not-is_empty.true in cc)

-- the last one goes with its row
pub returns-clause-taken : goal.returns-clause-taken
returns-clause-taken c =
    puts_at c.args.rows.now c.remove.new.self c.args.p None
    (gone_through c.args.rows.now (c.get_mut.follows.lender c.remove-number.new.self) c.remove.new.self c.args.p (Some c.remove-number.new.self)
    ((c.get_mut.follows.holds c.remove-number.new.self).3 (subst IsSome c.in-Some.ensures.value refl)).0 c.remove.ensures.updates.0)
    c.args.slot None
    (row_gone c.in-Some.row.now c.remove-number.new.self c.args.slot (tree.get prefix_cmp c.args.rows.now c.args.p) c.remove-number.ensures.removed c.in-Some.ensures.value
    (c.is_empty.ensures.0 c.if-not-is_empty.false))

pub returns-clause-filled : goal.returns-clause-filled
returns-clause-filled c =
    filled_at c.args.rows.now c.remove.new.self c.args.p None
    (gone_through c.args.rows.now (c.get_mut.follows.lender c.remove-number.new.self) c.remove.new.self c.args.p (Some c.remove-number.new.self)
    ((c.get_mut.follows.holds c.remove-number.new.self).3 (subst IsSome c.in-Some.ensures.value refl)).0 c.remove.ensures.updates.0)
    c.requires tt
