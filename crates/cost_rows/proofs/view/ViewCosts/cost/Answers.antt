use Rattle.std.proofs.Common.{◌≡◌, refl, sym, ◌∙◌, ap, length, slice_get, Some, arith}
use Rattle.std.proofs.lemmas.List.{length-map}
use Rattle.std.proofs.lemmas.Option.{slice_get_read}
use Rattle.cost_rows.proofs.ReachLemmas.{value_at, router_past, cost_none_from}
use Rattle.cost_rows.proofs.view.ViewCosts.cost.Goals as goal

pub returns-in_err-reach : goal.returns-in_err-reach
returns-in_err-reach c =
    c.from_residual.ensures ∙ rw (← c.self.view_is, ← c.from.view_is) (sym (cost_none_from c.self.inside.graph c.self.inside.members.items c.from.inside.0 c.args.to
    (router_past c.self.inside.members.items c.from.inside.0 (omega (arith, c.self.invariant.each_member, length-map c.self.inside.reaches.items (λ reach. reach.value), ap length c.deref.ensures.value, c.in_err-reach.ensures.lookup.3)))))

pub returns : goal.returns
returns c =
    let read : slice_get c.self.inside.reaches.items c.from.inside.0 ≡ Some c.in_ok-reach.reach.now =
    rw c.deref.ensures.value at (slice_get_read c.deref.result.now _ c.from.inside.0 c.in_ok-reach.reach.now refl c.in_ok-reach.ensures.lookup.3.0 c.in_ok-reach.ensures.lookup.1) in
    let right = c.self.invariant.right c.from.inside.0 c.in_ok-reach.reach.now.value (value_at c.self.inside.reaches.items (λ reach. reach.value) c.from.inside.0 c.in_ok-reach.reach.now read) in
    c.cost.ensures ∙ rw (c.deref-2.ensures, ← c.self.view_is, ← c.from.view_is) (right.costs c.args.to)
