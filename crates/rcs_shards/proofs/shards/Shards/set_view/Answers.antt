use Rattle.std.proofs.Common.{sym, ap, subst, ◌∙◌}
use Rattle.cost_rows.specs.Views.{ViewOf}
use Rattle.rcs_shard.specs.Following.{AreMoved}
use Rattle.rcs_shards.specs.Servers.{ServerOf}
use Rattle.rcs_shards.proofs.StepLemmas.{each-view, each-moved, links-act, links-together}
use Rattle.rcs_shards.proofs.shards.Shards.set_view.Goals as goal

pub view_each-requires-clause-members : goal.view_each-requires-clause-members
view_each-requires-clause-members c =
    let s = c.self.inside in
    each-view s.roster s.view.value s.connected s.shards.items c.self.invariant c.args.self.now c.self.view_is c.args.view.value c.requires

pub invariant_of-self-2 : goal.invariant_of-self-2
invariant_of-self-2 c =
    let s = c.self.inside in
    links-together s.roster s.view.value s.connected s.shards.items c.self.invariant c.args.self.now c.self.view_is c.view_each.new.shards.items c.args.view.value c.in_ok-view_each.ensures.after c.requires

pub returns-clause-after : goal.returns-clause-after
returns-clause-after c =
    let s = c.self.inside in
    links-act s.roster s.view.value s.connected s.shards.items c.self.invariant c.args.self.now c.self.view_is c.view_each.new.shards.items c.args.view.value.edges c.in_ok-view_each.ensures.after

pub view_each-requires-clause-moved : goal.view_each-requires-clause-moved
view_each-requires-clause-moved c =
    let s = c.self.inside in
    each-moved s.roster s.view.value s.connected s.shards.items c.self.invariant c.args.self.now c.self.view_is c.args.view.value c.moved_slots-moved.result
    (subst (λ (v : ViewOf). AreMoved v.edges c.args.view.value.edges v.members c.moved_slots-moved.result) c.deref.ensures
    (subst (λ (v : ViewOf). AreMoved c.deref.result.now.edges v.edges c.deref.result.now.members c.moved_slots-moved.result) c.deref-2.ensures c.moved_slots-moved.ensures))

pub moved_slots-moved-requires : goal.moved_slots-moved-requires
moved_slots-moved-requires c =
    ap (λ (v : ViewOf). v.members) c.deref-2.ensures ∙ c.requires ∙ sym (ap (λ (s : ServerOf). s.roster.members) c.self.view_is) ∙ sym c.self.invariant.members
    ∙ sym (ap (λ (v : ViewOf). v.members) c.deref.ensures)
