use Rattle.std.proofs.Common.{◌≡◌, refl, ap, length, slice_get, Some, arith}
use Rattle.std.proofs.lemmas.List.{length-map}
use Rattle.std.proofs.lemmas.Option.{slice_get_read}
use Rattle.cost_rows.proofs.ReachLemmas.{value_at, router_past, ranking_none}
use Rattle.cost_rows.proofs.view.View.ranked.Goals as goal

pub returns-in-Some : goal.returns-in-Some
returns-in-Some c =
    let read : slice_get c.self.inside.reaches.items c.from.inside.0 ≡ Some c.in-Some.reach.now =
    rw c.deref.ensures.value at (slice_get_read c.deref.result.now _ c.from.inside.0 c.in-Some.reach.now refl c.in-Some.ensures.lookup.3.0 c.in-Some.ensures.lookup.1) in
    let right = c.self.invariant.right c.from.inside.0 c.in-Some.reach.now.value (value_at c.self.inside.reaches.items (λ reach. reach.value) c.from.inside.0 c.in-Some.reach.now read) in
    rw (c.ranked.ensures, c.deref-in-Some.ensures, ← c.self.view_is, ← c.from.view_is) right.ranking

pub returns-in-None : goal.returns-in-None
returns-in-None c =
    rw (← c.self.view_is, ← c.from.view_is) (ranking_none c.self.inside.graph c.self.inside.members.items c.from.inside.0
    (router_past c.self.inside.members.items c.from.inside.0 (omega (arith, c.self.invariant.each_member, length-map c.self.inside.reaches.items (λ reach. reach.value), ap length c.deref.ensures.value, c.in-None.ensures.lookup.3))))
