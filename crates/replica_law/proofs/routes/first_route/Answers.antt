use Rattle.std.proofs.Common.{◌≡◌, ℕ, option_and_then}
use Rattle.rcp_base.specs.IpPrefix.{IpPrefix}
use Rattle.rcp_model.proofs.MemberLemmas.{Contains-none}
use Rattle.replica_law.specs.Replicas.{slot_of}
use Rattle.replica_law.proofs.FirstLemmas.{taken_more, taken_all, route_found}
use Rattle.replica_law.proofs.routes.first_route.Goals as goal

pub loop-router-init : goal.loop-router-init
loop-router-init g c = λ u member. absurd (Contains-none u member)

pub loop-router-preserved : goal.loop-router-preserved
loop-router-preserved g c =
    let f = λ (u : ℕ) (p : IpPrefix). option_and_then (g.X.Assigned.announced c.args.first.now p) (slot_of (g.X.Costs.members c.args.first.now) u) in
    let h = λ (u : ℕ) (p : IpPrefix). option_and_then (g.Y.Assigned.announced c.args.second.now p) (slot_of (g.Y.Costs.members c.args.second.now) u) in
    taken_more (λ u. (p : IpPrefix) → f u p ≡ h u p) c.args.routers.now c.loop-router.router-index c.router-item.result c.loop-router-test.true c.router-item.is c.loop-router.invariant c.in_default.ensures

pub returns-in-Some : goal.returns-in-Some
returns-in-Some g c =
    let f = λ (u : ℕ) (p : IpPrefix). option_and_then (g.X.Assigned.announced c.args.first.now p) (slot_of (g.X.Costs.members c.args.first.now) u) in
    let h = λ (u : ℕ) (p : IpPrefix). option_and_then (g.Y.Assigned.announced c.args.second.now p) (slot_of (g.Y.Costs.members c.args.second.now) u) in
    route_found f h c.args.routers.now c.loop-router.router-index c.router-item.result c.in-Some.prefix c.requires.rising c.loop-router-test.true c.router-item.is c.loop-router.invariant c.in-Some.ensures

pub returns : goal.returns
returns g c =
    let f = λ (u : ℕ) (p : IpPrefix). option_and_then (g.X.Assigned.announced c.args.first.now p) (slot_of (g.X.Costs.members c.args.first.now) u) in
    let h = λ (u : ℕ) (p : IpPrefix). option_and_then (g.Y.Assigned.announced c.args.second.now p) (slot_of (g.Y.Costs.members c.args.second.now) u) in
    λ u p member. taken_all (λ w. (q : IpPrefix) → f w q ≡ h w q) c.args.routers.now c.loop-router.router-index c.loop-router-test.false c.loop-router.invariant u member p
