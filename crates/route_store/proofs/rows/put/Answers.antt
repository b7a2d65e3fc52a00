use Rattle.std.proofs.Common.{◌≡◌, Some, IsSome, refl, subst, ap, ◌∙◌}
use Rattle.std.specs.BTreeMap as tree
use Rattle.rcp_base.specs.IpPrefix.{prefix_cmp}
use Rattle.route_store.specs.Rows.{Row, PutsIn, Puts, SameNumbers}
use Rattle.route_store.proofs.NumberLemmas.{puts_at, same_at, filled_at, row_puts, row_filled, set_filled, on_ok, on_err}
use Rattle.route_store.proofs.rows.put.Goals as goal

pub returns-in-Some-clause-put : goal.returns-in-Some-clause-put
returns-in-Some-clause-put c =
    on_ok c.set.result (PutsIn c.in-Some.row.now c.set.new.self c.args.slot (Some c.args.route)) (Puts c.args.rows.now (c.get_mut.follows.lender c.set.new.self) (c.args.p, c.args.slot) (Some c.args.route))
    (λ puts. puts_at c.args.rows.now (c.get_mut.follows.lender c.set.new.self) c.args.p (Some c.set.new.self)
    ((c.get_mut.follows.holds c.set.new.self).3 (subst IsSome c.in-Some.ensures.value refl)).0
    c.args.slot (Some c.args.route) (row_puts c.in-Some.row.now c.set.new.self c.args.slot (Some c.args.route) (tree.get prefix_cmp c.args.rows.now c.args.p) puts c.in-Some.ensures.value))
    c.set.ensures.set

pub returns-in-Some-clause-same : goal.returns-in-Some-clause-same
returns-in-Some-clause-same c =
    on_err c.set.result (c.set.new.self ≡ c.in-Some.row.now) (SameNumbers c.args.rows.now (c.get_mut.follows.lender c.set.new.self))
    (λ same. same_at c.args.rows.now (c.get_mut.follows.lender c.set.new.self) c.args.p (Some c.set.new.self)
    ((c.get_mut.follows.holds c.set.new.self).3 (subst IsSome c.in-Some.ensures.value refl)).0
    (ap (λ (row : Row). Some row) same ∙ c.in-Some.ensures.value))
    c.set.ensures.err

pub returns-in-Some-clause-filled : goal.returns-in-Some-clause-filled
returns-in-Some-clause-filled c =
    filled_at c.args.rows.now (c.get_mut.follows.lender c.set.new.self) c.args.p (Some c.set.new.self)
    ((c.get_mut.follows.holds c.set.new.self).3 (subst IsSome c.in-Some.ensures.value refl)).0
    c.requires
    (set_filled c.set.result c.in-Some.row.now c.set.new.self c.args.slot c.args.route c.set.ensures.set c.set.ensures.err
    (row_filled (tree.get prefix_cmp c.args.rows.now c.args.p) c.in-Some.row.now (c.requires c.args.p) c.in-Some.ensures.value))
