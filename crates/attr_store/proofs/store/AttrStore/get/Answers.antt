use Rattle.std.proofs.Common.{◌≡◌, ℕ, Some, IsSome, sym, ap, subst, ◌∙◌}
use mathlib.Core.Bool.{false≢true}
use Rattle.slab.specs.Slab as slab
use Rattle.attr_store.specs.Kept.{HasEachOnce}
use Rattle.attr_store.proofs.JoinedLemmas.{each_once}
use Rattle.attr_store.proofs.CountLemmas.{live_in, route_in}
use Rattle.attr_store.proofs.store.AttrStore.get.Goals as goal

-- a live number has a route
pub unreachable-requires : goal.unreachable-requires
unreachable-requires c =
    false≢true (subst IsSome (sym (c.in-None.ensures ∙ ap (slab.get c.self.inside.kept) c.number.ensures.value)) (live_in c.self.inside.kept c.args.self.now c.self.view_is c.args.n c.requires))

pub returns-clause-route : goal.returns-clause-route
returns-clause-route c = route_in c.self.inside.kept c.args.self.now c.self.view_is c.args.n c.in-Some.kept.now (c.in-Some.ensures ∙ ap (slab.get c.self.inside.kept) c.number.ensures.value)

pub returns-clause-once : goal.returns-clause-once
returns-clause-once c = subst HasEachOnce c.self.view_is (each_once c.self.inside.kept c.self.inside.numbers c.self.invariant)
