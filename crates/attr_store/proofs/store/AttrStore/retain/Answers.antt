use Rattle.std.proofs.Common.{◌≡◌, ℕ, IsSome, sym, ap, subst, ◌∙◌}
use Rattle.slab.specs.Slab.{ContainsKey}
use Rattle.attr_store.specs.Kept.{retained}
use Rattle.attr_store.proofs.CountLemmas.{live_in, retained_is, joined_more}
use Rattle.attr_store.proofs.store.AttrStore.retain.Goals as goal

pub add_use-requires : goal.add_use-requires
add_use-requires c = subst (ContainsKey c.self.inside.kept) (sym c.number.ensures.value) (live_in c.self.inside.kept c.args.self.now c.self.view_is c.args.n c.requires)

pub invariant_of-self : goal.invariant_of-self
invariant_of-self c =
    joined_more c.self.inside.kept c.self.inside.numbers c.self.invariant c.number.result c.add_use.new.kept
    (subst (ContainsKey c.self.inside.kept) (sym c.number.ensures.value) (live_in c.self.inside.kept c.args.self.now c.self.view_is c.args.n c.requires)) c.add_use.ensures

pub returns : goal.returns
returns c =
    retained_is c.self.inside.kept c.args.self.now c.self.view_is c.number.result c.add_use.new.kept c.add_use.ensures
    (subst (ContainsKey c.self.inside.kept) (sym c.number.ensures.value) (live_in c.self.inside.kept c.args.self.now c.self.view_is c.args.n c.requires))
    ∙ ap (retained c.args.self.now) c.number.ensures.value
