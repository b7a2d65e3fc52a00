use Rattle.std.proofs.Common.{◌≡◌, ℕ, Some, None, true, false, IfSome, IsSome, refl, sym, ap, subst, ◌∙◌}
use Rattle.slab.specs.Slab as slab
use Rattle.slab.specs.Slab.{ContainsKey, Updates}
use Rattle.attr_store.specs.declared.kept.KeptRoute.{KeptRoute}
use Rattle.attr_store.specs.Kept.{released}
use Rattle.attr_store.specs.Joined.{kept_routes}
use Rattle.attr_store.proofs.JoinedLemmas.{joined_removed}
use Rattle.attr_store.proofs.CountLemmas.{live_in, in_use_in, joined_less, released_is, left_is, gone_is}
use Rattle.attr_store.proofs.store.AttrStore.release.Goals as goal
use Rattle.attr_store.proofs.store.AttrStore.release.Goals.{After-end_use}

pub end_use-requires-clause-live : goal.end_use-requires-clause-live
end_use-requires-clause-live c =
    subst (ContainsKey c.self.inside.kept) (sym c.number-number.ensures.value) (live_in c.self.inside.kept c.args.self.now c.self.view_is c.args.n c.requires)

pub end_use-requires-clause-in_use : goal.end_use-requires-clause-in_use
end_use-requires-clause-in_use c = in_use_in c.self.inside.kept c.self.inside.numbers c.self.invariant c.number-number.result c.self.inside.kept

-- ---- one use of several

live : (c : After-end_use) → ContainsKey c.self.inside.kept c.number-number.result
live c = subst (ContainsKey c.self.inside.kept) (sym c.number-number.ensures.value) (live_in c.self.inside.kept c.args.self.now c.self.view_is c.args.n c.requires)

pub invariant_of-self : goal.invariant_of-self
invariant_of-self c =
    joined_less c.self.inside.kept c.self.inside.numbers c.self.invariant c.number-number.result c.end_use.new.kept (live (goal.at.invariant_of-self c).After-end_use) c.end_use.ensures.less

pub returns-then-not-end_use : goal.returns-then-not-end_use
returns-then-not-end_use c =
    released_is c.self.inside.kept c.args.self.now c.self.view_is c.number-number.result c.end_use.new.kept c.end_use.ensures.less c.end_use.result c.if-not-end_use.true c.end_use.ensures.last (live (goal.at.returns-then-not-end_use c).After-end_use)
    ∙ ap (released c.args.self.now) c.number-number.ensures.value

-- ---- the last one

abbrev Last : (c : After-end_use) → Type 0
Last c = (k : KeptRoute) × (slab.get c.self.inside.kept c.number-number.result ≡ Some k) × (k.uses ≡ 1) × (slab.get c.end_use.new.kept c.number-number.result ≡ Some k) × (kept_routes c.end_use.new.kept ≡ c.args.self.now)

last : (c : After-end_use) → c.end_use.result ≡ true → Last c
last c is =
    left_is c.self.inside.kept c.args.self.now c.self.view_is c.number-number.result c.end_use.new.kept c.end_use.ensures.less c.end_use.result is c.end_use.ensures.last (live c)

pub remove-route-requires : goal.remove-route-requires
remove-route-requires c = subst IsSome (sym (last (goal.at.remove-route-requires c).After-end_use c.if-not-end_use.false).3) refl

pub invariant_of-self-2 : goal.invariant_of-self-2
invariant_of-self-2 c =
    let step = (goal.at.invariant_of-self-2 c).After-end_use in
    let joined = joined_less c.self.inside.kept c.self.inside.numbers c.self.invariant c.number-number.result c.end_use.new.kept (live step) c.end_use.ensures.less in
    joined_removed c.end_use.new.kept c.self.inside.numbers joined c.remove-route.new.self c.number-number.result c.remove.new.self c.remove-route.result c.remove-route.ensures.value c.remove-route.ensures.updates
    c.remove.ensures.updates.0

pub returns : goal.returns
returns c =
    let step = last (goal.at.returns c).After-end_use c.if-not-end_use.false in
    gone_is c.self.inside.kept c.args.self.now c.self.view_is c.number-number.result c.end_use.new.kept c.end_use.ensures.less step.0 step.1 step.2 step.4 c.remove-route.new.self c.remove-route.ensures.updates
    ∙ ap (released c.args.self.now) c.number-number.ensures.value
