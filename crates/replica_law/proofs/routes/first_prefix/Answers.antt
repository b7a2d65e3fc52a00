use Rattle.std.proofs.Common.{◌≡◌, option_and_then, sym, ◌∙◌}
use Rattle.rcp_base.specs.IpPrefix.{IpPrefix}
use Rattle.rcp_model.proofs.MemberLemmas.{Contains-none}
use Rattle.replica_law.specs.Replicas.{slot_of}
use Rattle.replica_law.proofs.FirstLemmas.{octets_differ, octets_same, taken_more, prefix_found, prefix_none}
use Rattle.replica_law.proofs.routes.first_prefix.Goals as goal

pub loop-prefix-init : goal.loop-prefix-init
loop-prefix-init g c = λ p member. absurd (Contains-none p member)

pub loop-prefix-preserved : goal.loop-prefix-preserved
loop-prefix-preserved g c =
    let f = λ (p : IpPrefix). option_and_then (g.X.Assigned.announced c.args.first.now p) (slot_of (g.X.Costs.members c.args.first.now) c.args.router) in
    let h = λ (p : IpPrefix). option_and_then (g.Y.Assigned.announced c.args.second.now p) (slot_of (g.Y.Costs.members c.args.second.now) c.args.router) in
    taken_more (λ p. f p ≡ h p) c.args.found.now.prefixes.items c.loop-prefix.prefix-index c.prefix-item.result (rw c.as_slice-prefix-items.ensures.value at c.loop-prefix-test.true)
    (rw c.as_slice-prefix-items.ensures.value at c.prefix-item.is) c.loop-prefix.invariant
    (octets_same (f c.prefix-item.result) (h c.prefix-item.result) (sym c.is_rerouted.ensures ∙ c.if-is_rerouted.false))

pub returns-then-is_rerouted : goal.returns-then-is_rerouted
returns-then-is_rerouted g c =
    let s = slot_of (g.X.Costs.members c.args.first.now) c.args.router in
    let t = slot_of (g.Y.Costs.members c.args.second.now) c.args.router in
    let A = g.X.Assigned.announced c.args.first.now in
    let B = g.Y.Assigned.announced c.args.second.now in
    prefix_found A B s t c.args.found.now.prefixes.items c.requires.prefixes c.loop-prefix.prefix-index c.prefix-item.result (rw c.as_slice-prefix-items.ensures.value at c.loop-prefix-test.true)
    (rw c.as_slice-prefix-items.ensures.value at c.prefix-item.is) c.loop-prefix.invariant
    (octets_differ (option_and_then (A c.prefix-item.result) s) (option_and_then (B c.prefix-item.result) t) (sym c.is_rerouted.ensures ∙ c.if-is_rerouted.true))

pub returns : goal.returns
returns g c =
    prefix_none (g.X.Assigned.announced c.args.first.now) (g.Y.Assigned.announced c.args.second.now) (slot_of (g.X.Costs.members c.args.first.now) c.args.router)
    (slot_of (g.Y.Costs.members c.args.second.now) c.args.router) c.args.found.now.prefixes.items c.requires.prefixes c.loop-prefix.prefix-index
    (rw c.as_slice-prefix-items.ensures.value at c.loop-prefix-test.false) c.loop-prefix.invariant
